use Rattle.std.proofs.Common.{◌≡◌, ◌++◌, ◌-◌, ap, sym, ◌∙◌, arith, [], ◌∷◌, length}
use Rattle.spx_findings.specs.Findings.{unproved_of}
use Rattle.spx_report.specs.declared.report.SubRow.{SubRow}
use Rattle.spx_findings.proofs.LeftLaws.{conditions_are, few_left, row_is}
use Rattle.spx_findings.proofs.tally.add_sub.Goals as goal

pub row_of-row-requires : goal.row_of-row-requires
row_of-row-requires c =
    let few = few_left c.args.program.now c.args.sub.now c.closed_claims.new.claims c.in_ok-left.left (c.in_ok-closed.ensures.same ∙ c.in_ok-claims.ensures.claims c.args.sub.now c.requires) c.in_ok-left.ensures in
    omega (arith, few, c.len.ensures, c.len-2.ensures)

pub returns-clause-lines : goal.returns-clause-lines
returns-clause-lines c =
    c.in_ok-append.ensures
    ∙ ap (λ ls. c.args.found.now.lines ++ ls) (c.in_ok-left.ensures ∙ ap unproved_of (conditions_are c.args.program.now c.args.sub.now c.closed_claims.new.claims (c.in_ok-closed.ensures.same ∙ c.in_ok-claims.ensures.claims c.args.sub.now c.requires)))

pub returns-clause-rows : goal.returns-clause-rows
returns-clause-rows c =
    let new = c.closed_claims.new.claims in
    let row : c.row_of-row.result ≡ record { sub = c.args.id; total = length new.list; simplified = length new.list - length c.in_ok-left.left; scripted = 0; left = length c.in_ok-left.left } =
    c.row_of-row.ensures ∙ (λ t. record { sub = c.args.id; total = c.len.ensures t; simplified = c.len.ensures t - c.len-2.ensures t; scripted = 0; left = c.len-2.ensures t }) in
    c.in_ok-push.ensures.ok
    ∙ ap (λ (r : SubRow). c.args.found.now.subs ++ r ∷ []) (row ∙ sym (row_is c.args.program.now c.args.id c.args.sub.now new c.in_ok-left.left (c.in_ok-closed.ensures.same ∙ c.in_ok-claims.ensures.claims c.args.sub.now c.requires) c.in_ok-left.ensures))
