use Rattle.std.proofs.Common.{◌≡◌, ℕ, List, length, take, None, Some, ap, sym, subst, ◌∙◌, arith}
use Rattle.std.proofs.lemmas.List.{take_rest}
use Rattle.spx_text.specs.declared.place.Place.{Place}
use Rattle.spx_run.specs.Lines.{lines_of}
use Rattle.spx_run.specs.Inputs.{IsFirstBad}
use Rattle.spx_run.specs.Mirror.{IsReadAs, line_len}
use Rattle.spx_run.proofs.PassLaws.{ends_at, goes_on_at, stops_at}
use Rattle.spx_run.proofs.inputs.read_inputs.Goals as goal

pub returns-in_default-clause-bad : goal.returns-in_default-clause-bad
returns-in_default-clause-bad c = λ place e.
    let source = c.args.source.now in
    let text = c.first_line-text.result.now in
    let first = subst (λ (rest : List ℕ). text ≡ take (line_len rest) rest) (take_rest source c.loop-at.at) c.first_line-text.ensures.value in
    let read : IsReadAs c.loop-at.number text None = rw c.in_default.is at c.in_ok-line.ensures in
    let bad = stops_at source c.loop-at.at c.loop-at.number text c.loop-at.lines c.loop-at.invariant.passes c.loop-at-test.true first read in
    let same : c.first_column.result ≡ place = cc in
    let numbered : c.loop-at.number ≡ place.line = ap (λ (p : Place). p.line) (sym c.first_column.ensures ∙ same) in
    (subst (λ (n : ℕ). IsFirstBad 1 (lines_of source) n) numbered bad, sym same ∙ c.first_column.ensures ∙ ap (λ (n : ℕ). record { file = c.args.file; line = n; column = 1 }) numbered)

pub loop-at-preserved : goal.loop-at-preserved
loop-at-preserved c =
    let source = c.args.source.now in
    let text = c.first_line-text.result.now in
    let rest_is = take_rest source c.loop-at.at in
    let first = subst (λ (rest : List ℕ). text ≡ take (line_len rest) rest) rest_is c.first_line-text.ensures.value in
    let size = subst (λ (rest : List ℕ). length text ≡ line_len rest) rest_is c.first_line-text.ensures.size in
    let read : IsReadAs c.loop-at.number text (Some c.in-Some.line) = rw c.in-Some.is at c.in_ok-line.ensures in
    record {
      passes = goes_on_at source c.loop-at.at (length text) c.loop-at.number text c.loop-at.lines c.push.new.self c.in-Some.line c.loop-at.invariant.passes c.loop-at-test.true first size read c.in_ok-push.ensures.ok;
      numbered = omega arith;
      within = omega arith;
    }

pub returns-clause-lines : goal.returns-clause-lines
returns-clause-lines c = ends_at c.args.source.now c.loop-at.at c.loop-at.number c.loop-at.lines c.loop-at.invariant.passes c.loop-at-test.false
