use Rattle.std.proofs.Common.{◌≡◌, [], Some, ◌+◌, ◌-◌, length, map, take, rules, sym, ap, ◌∙◌, subst}
use Rattle.std.proofs.lemmas.List.{take_all}
use Rattle.std.proofs.lemmas.Result.{IfOk-weaker}
use Rattle.spx_core.specs.declared.statement.CoreStmt.{CoreStmt}
use Rattle.spx_core.specs.declared.statement.CoreAlternative.{CoreAlternative, out-CoreAlternative}
use Rattle.spx_core.specs.Commands.{command}
use Rattle.spx_core.specs.Effects.{effect, effects}
use Rattle.spx_lower.specs.declared.item.Item.TheVariants.{Branch}
use Rattle.spx_lower.specs.Meaning.{arm_of, effect_of, given_arm, given_body, row}
use Rattle.spx_lower.proofs.LowerLaws.{case_lowered, else_lowered, if_lowered, row_effects}
use Rattle.spx_lower.proofs.body.+lower.Goals as goal

pub lower-returns : goal.lower-returns
lower-returns t c =
    let stmts = c.args.stmts.now in
    ap row (c.loop-stmt.invariant ∙ ap (map (λ (s : CoreStmt). effect (command s))) (take_all c.loop-stmt.stmt-index stmts c.loop-stmt-test.false)) ∙ sym (row_effects stmts)

pub lowered-returns-in-None : goal.lowered-returns-in-None
lowered-returns-in-None t c =
    let here = c.in-If in
    let arms = c.in_ok-arms-in-If in
    IfOk-weaker c.boxed_branch.result _ _ (λ item is. ap effect_of is ∙ if_lowered c.args.stmt.now here.arms here.otherwise here.field-2 here.is c.in-None.is c.new.result arms.arms c.new-in-None.result c.new.ensures c.new-in-None.ensures (arms.ensures ∙ ap (map given_arm) c.as_slice.ensures)) c.boxed_branch.ensures

pub lowered-returns-in_ok-stmts-in-Some : goal.lowered-returns-in_ok-stmts-in-Some
lowered-returns-in_ok-stmts-in-Some t c =
    let here = c.in-If in
    let arms = c.in_ok-arms-in-If in
    let otherwise = c.in_ok-stmts-in-Some in
    IfOk-weaker c.boxed_branch-in-Some.result _ _ (λ item is. ap effect_of is ∙ else_lowered c.args.stmt.now here.arms here.otherwise c.in-Some.stmts here.field-2 here.is c.in-Some.is c.new-in-Some.result arms.arms otherwise.stmts c.new-in-Some.ensures (otherwise.ensures ∙ ap effects c.as_slice-in-Some.ensures)
    (arms.ensures ∙ ap (map given_arm) c.as_slice.ensures)) c.boxed_branch-in-Some.ensures

pub lowered_case-returns : goal.lowered_case-returns
lowered_case-returns t c =
    let alternatives = c.args.alternatives.now in
    let a = c.index-alternatives-last.result in
    let long : length alternatives - 1 + 1 ≡ length alternatives = search rules in
    let end : c.loop-k.k ≡ length alternatives - 1 = search rules in
    let stmts = c.as_slice.ensures ∙ ap (λ x. (out-CoreAlternative x).body) (sym c.index-alternatives-last.is) in
    IfOk-weaker c.boxed_branch.result _ _ (λ item is. ap effect_of is ∙ ap (λ place. effect_of (Branch c.in_ok-reads.reads c.loop-k.arms (Some place) c.in_ok-otherwise.otherwise)) c.in_ok-here.ensures ∙ case_lowered c.args.place c.args.selector.now alternatives (length alternatives - 1) a long c.index-alternatives-last.is c.in_ok-reads.reads c.loop-k.arms c.in_ok-otherwise.otherwise c.in_ok-reads.ensures
    (c.in_ok-otherwise.ensures ∙ ap effects stmts) (subst (λ k. map arm_of c.loop-k.arms ≡ map (λ (b : CoreAlternative). given_body c.args.place [] (out-CoreAlternative b).body) (take k alternatives)) end c.loop-k.invariant)) c.boxed_branch.ensures
