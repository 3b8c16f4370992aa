use Rattle.std.proofs.Common.{◌≡◌, Bool, None, ap, sym, ◌∙◌, get_or, arith}
use Rattle.std.specs.Prelude.{if◌then◌else◌}
use Rattle.std.proofs.lemmas.List.{append-nil}
use Rattle.spx_core.specs.declared.entity.VarId.{VarId}
use Rattle.spx_core.specs.Dependency.{exports}
use Rattle.spx_run.specs.Results.{output_of}
use Rattle.spx_run.proofs.GivenLaws.{kept_more}
use Rattle.spx_run.proofs.entry.outputs.Goals as goal
use Rattle.spx_run.proofs.entry.outputs.Goals.{then-contains+in_ok-add_output, else-contains}

pub loop-var-preserved : goal.loop-var-preserved
loop-var-preserved c =
    let p = c.args.program.now in
    let sub = c.args.sub.now in
    let s = c.args.store.now in
    let kept = λ (v : VarId). if exports v sub then output_of p s v else None in
    let xs = c.formals-var-items.result.now in
    let first : VarId = record { 0 = 0 } in
    let v = get_or xs c.loop-var.var-index first in
    let said = λ (b : Bool). if b then output_of p s v else None in
    let exported : exports v sub ≡ c.contains.result = sym (c.requires v) ∙ sym c.contains.ensures in
    let more = kept_more kept xs c.loop-var.var-index first c.loop-var.outputs c.if-contains.outputs in
    elim c.if-contains.branch [
      | then-contains+in_ok-add_output w ↦ more (output_of p s v) (omega arith) c.loop-var.invariant (sym (ap said (exported ∙ w.if-contains.true))) (w.outputs-is ∙ w.in_ok-add_output.ensures)
      | else-contains w ↦ more None (omega arith) c.loop-var.invariant (sym (ap said (exported ∙ w.if-contains.false))) (w.outputs-is ∙ sym (append-nil c.loop-var.outputs))
    ]
