use Rattle.std.proofs.Common.{◌∷◌, length, map, option_map, ap, ap₂, ◌∙◌}
use Rattle.spx_core.specs.ResolvedExpressions.{in_code, resolved_condition}
use Rattle.spx_core.specs.ResolvedStatements.{parameters_by, parameters_by_alternative, parameters_by_arm, resolved_alternative, resolved_arm, resolved_choice, resolved_scheme, resolved_stmt}
use Rattle.spx_scope.specs.Seen.{seen}
use Rattle.spx_naming.proofs.InOrder.{one_more}
use Rattle.spx_naming.proofs.StatementForms.{made_alternative, made_arm, made-Case, made-If, made-If-else, made-Loop}
use Rattle.spx_naming.proofs.statement.+resolve_stmt.Goals as goal

pub resolve_stmts-loop-stmt-preserved : goal.resolve_stmts-loop-stmt-preserved
resolve_stmts-loop-stmt-preserved t c =
    let made = c.in_ok-resolve_stmt.ensures in
    one_more (resolved_stmt c.args.scene.now.types c.args.scene.now.items (seen c.args.outer.now)) parameters_by c.args.stmts.now c.args.region.now c.loop-stmt.region c.resolve_stmt.new.region
    c.args.vars.now c.loop-stmt.vars c.resolve_stmt.new.vars c.loop-stmt.stmt-index c.loop-stmt.resolved c.push.new.self c.stmt-item.result _
    c.loop-stmt-test.true c.stmt-item.is made c.in_ok-push.ensures.ok c.loop-stmt.invariant

pub resolve_arms-loop-arm-preserved : goal.resolve_arms-loop-arm-preserved
resolve_arms-loop-arm-preserved t c =
    let outer = seen c.args.outer.now in
    let condition = c.in_ok-condition.ensures ∙ ap₂ (λ types e. resolved_condition (in_code types) (c.loop-arm.region ∷ outer) e) c.types.ensures c.get.ensures in
    let body = c.as_slice-body.ensures ∙ c.get-in-loop-arm.ensures in
    let made = made_arm c.args.scene.now.types c.args.scene.now.items outer c.loop-arm.region c.loop-arm.vars c.resolve_stmts.new.region c.resolve_stmts.new.vars c.arm-item.result c.as_slice-body.result.now
    c.in_ok-condition.condition c.in_ok-body.body condition body c.in_ok-body.ensures in
    one_more (resolved_arm c.args.scene.now.types c.args.scene.now.items outer) parameters_by_arm c.args.arms.now c.args.region.now c.loop-arm.region c.resolve_stmts.new.region
    c.args.vars.now c.loop-arm.vars c.resolve_stmts.new.vars c.loop-arm.arm-index c.loop-arm.resolved c.push.new.self c.arm-item.result _
    c.loop-arm-test.true c.arm-item.is made c.in_ok-push.ensures.ok c.loop-arm.invariant

pub resolve_alternatives-loop-alternative-preserved : goal.resolve_alternatives-loop-alternative-preserved
resolve_alternatives-loop-alternative-preserved t c =
    let outer = seen c.args.outer.now in
    let made = made_alternative c.args.scene.now.types c.args.scene.now.items outer c.loop-alternative.region c.loop-alternative.vars c.resolve_stmts.new.region c.resolve_stmts.new.vars c.alternative-item.result c.as_slice-body.result.now
    c.in_ok-choices.choices c.in_ok-body.body
    (c.in_ok-choices.ensures ∙ ap (λ types. option_map (map (resolved_choice (in_code types) (c.loop-alternative.region ∷ outer))) c.alternative-item.result.choices) c.types.ensures) c.as_slice-body.ensures c.in_ok-body.ensures in
    one_more (resolved_alternative c.args.scene.now.types c.args.scene.now.items outer) parameters_by_alternative c.args.alternatives.now c.args.region.now c.loop-alternative.region c.resolve_stmts.new.region
    c.args.vars.now c.loop-alternative.vars c.resolve_stmts.new.vars c.loop-alternative.alternative-index c.loop-alternative.resolved c.push.new.self c.alternative-item.result _
    c.loop-alternative-test.true c.alternative-item.is made c.in_ok-push.ensures.ok c.loop-alternative.invariant

pub resolve_stmt-returns-in_default : goal.resolve_stmt-returns-in_default
resolve_stmt-returns-in_default t c =
    let written = c.in-If in
    let arms = c.in_ok-arms-in-If in
    rw c.get-in_default.ensures
    (made-If c.args.scene.now.types c.args.scene.now.items (seen c.args.outer.now) c.args.region.now c.args.vars.now c.resolve_arms.new.region c.resolve_arms.new.vars
    c.args.stmt.now written.arms c.as_slice-arms.result.now written.otherwise written.closing arms.arms
    written.is c.in_default.is (c.as_slice-arms.ensures ∙ c.get-in-If.ensures) arms.ensures)

pub resolve_stmt-returns-in_ok-stmts-in-If : goal.resolve_stmt-returns-in_ok-stmts-in-If
resolve_stmt-returns-in_ok-stmts-in-If t c =
    let written = c.in-If in
    let arms = c.in_ok-arms-in-If in
    let stmts = c.in_ok-stmts-in-If in
    rw c.get-in-If-3.ensures
    (made-If-else c.args.scene.now.types c.args.scene.now.items (seen c.args.outer.now) c.args.region.now c.args.vars.now c.resolve_arms.new.region c.resolve_arms.new.vars c.resolve_stmts.new.region c.resolve_stmts.new.vars
    c.args.stmt.now written.arms c.as_slice-arms.result.now written.otherwise c.in-Some.stmts c.as_slice-stmts.result.now written.closing arms.arms stmts.stmts
    written.is c.in-Some.is (c.as_slice-arms.ensures ∙ c.get-in-If.ensures) (c.as_slice-stmts.ensures ∙ c.get-in-If-2.ensures) arms.ensures stmts.ensures)

pub resolve_stmt-returns-in_ok-alternatives-in-Case : goal.resolve_stmt-returns-in_ok-alternatives-in-Case
resolve_stmt-returns-in_ok-alternatives-in-Case t c =
    let written = c.in-Case in
    let selector = c.in_ok-selector-in-Case in
    let alternatives = c.in_ok-alternatives-in-Case in
    rw (c.get-in-Case-3.ensures, c.get-in-Case-4.ensures)
    (made-Case c.args.scene.now.types c.args.scene.now.items (seen c.args.outer.now) c.args.region.now c.args.vars.now c.resolve_alternatives.new.region c.resolve_alternatives.new.vars
    c.args.stmt.now written.place written.selector written.alternatives c.as_slice-given.result.now written.closing selector.selector alternatives.alternatives
    written.is (selector.ensures ∙ ap₂ (λ types e. resolved_condition (in_code types) (c.args.region.now ∷ seen c.args.outer.now) e) c.types.ensures c.get-in-Case.ensures) (c.as_slice-given.ensures ∙ c.get-in-Case-2.ensures) alternatives.ensures)

pub resolve_stmt-returns-in_ok-body-in-Loop : goal.resolve_stmt-returns-in_ok-body-in-Loop
resolve_stmt-returns-in_ok-body-in-Loop t c =
    let written = c.in-Loop in
    let scheme = c.in_ok-scheme-in-Loop in
    let body = c.in_ok-body-in-Loop in
    rw (c.into_inner.ensures, c.get-in-Loop-3.ensures, c.get-in-Loop-4.ensures)
    (made-Loop c.args.scene.now.types c.args.scene.now.items (seen c.args.outer.now) c.args.region.now c.args.vars.now c.resolve_scheme.new.region c.resolve_scheme.new.vars c.resolve_stmts-in-Loop.new.region c.resolve_stmts-in-Loop.new.vars
    c.args.stmt.now written.scheme written.word written.body c.as_slice-body.result.now written.closing c.len-count.result c.truncate.new.self scheme.scheme body.body
    written.is c.len-count.ensures (c.as_slice-body.ensures ∙ c.get-in-Loop-2.ensures) (scheme.ensures.0 ∙ ap₂ (λ types s. resolved_scheme (in_code types) (seen c.args.outer.now) c.args.region.now (length c.args.vars.now) s) c.types-in-Loop.ensures c.get-in-Loop.ensures, scheme.ensures.1, scheme.ensures.2) body.ensures c.truncate.ensures)
