use Rattle.std.proofs.Common.{rules, sym, ap, ◌∙◌, drop, ◌+◌}
use Rattle.std.proofs.lemmas.Result.{err_from_is_err_and}
use Rattle.std.specs.Prelude.{⊤}
use Rattle.spx_core.specs.Judged.{Judged, ◌>>=◌}
use Rattle.spx_core.specs.Obeyed.{obeyed_alternatives}
use Rattle.spx_typing.specs.Choices.{alternatives_in}
use Rattle.spx_core.proofs.Callers.CommandForms.{command-Case}
use Rattle.spx_rules.proofs.CaseRules.{case_obeyed, obeyed_at}
use Rattle.spx_rules.proofs.ExitRules.{arms_from}
use Rattle.spx_rules.proofs.modes.+obey_stmt.Goals as goal

pub obey_arms-returns-in_err-obey_stmts : goal.obey_arms-returns-in_err-obey_stmts
obey_arms-returns-in_err-obey_stmts t c =
    let found = arms_from c.loop-at.here c.args.arms.now c.loop-at.at c.args.otherwise.now c.loop-at-test.true c.index-arms-at.is c.arm_in-inside.ensures c.as_slice.ensures c.in_err-obey_stmts.ensures in
    let passed = err_from_is_err_and c.from_residual.result c.from_residual.ensures.1 in
    rw (passed.1, passed.2) (c.loop-at.invariant ∙ found)

pub obey_arms-loop-at-preserved : goal.obey_arms-loop-at-preserved
obey_arms-loop-at-preserved t c =
    c.loop-at.invariant ∙ arms_from c.loop-at.here c.args.arms.now c.loop-at.at c.args.otherwise.now c.loop-at-test.true c.index-arms-at.is c.arm_in-inside.ensures c.as_slice.ensures c.in_ok-obey_stmts.ensures

pub obey_alternatives-returns-in_err-obey_chosen : goal.obey_alternatives-returns-in_err-obey_chosen
obey_alternatives-returns-in_err-obey_chosen t c =
    let e = obeyed_at c.args.alternatives.now c.loop-alternative.alternative-index c.alternative-item.result c.loop-alternative-test.true c.alternative-item.is in
    let h = sym (c.loop-alternative.invariant ∙ e ∙ ap (λ (x : Judged ⊤). x >>= λ _. obeyed_alternatives (alternatives_in (drop (c.loop-alternative.alternative-index + 1) c.args.alternatives.now))) (sym c.in_err-obey_chosen.ensures)) in
    search (rules, h)

pub obey_alternatives-loop-alternative-preserved : goal.obey_alternatives-loop-alternative-preserved
obey_alternatives-loop-alternative-preserved t c =
    let e = obeyed_at c.args.alternatives.now c.loop-alternative.alternative-index c.alternative-item.result c.loop-alternative-test.true c.alternative-item.is in
    c.loop-alternative.invariant ∙ e ∙ ap (λ (x : Judged ⊤). x >>= λ _. obeyed_alternatives (alternatives_in (drop (c.loop-alternative.alternative-index + 1) c.args.alternatives.now))) (sym c.in_ok-obey_chosen.ensures)

pub obey_stmt-returns-in-Case : goal.obey_stmt-returns-in-Case
obey_stmt-returns-in-Case t c =
    let here = c.in-Case in
    let h = case_obeyed c.args.around c.args.stmt.now here.field-0 here.field-1 here.alternatives (command-Case c.args.stmt.now here.field-0 here.field-1 here.alternatives here.field-3 here.is) in
    c.obey_alternatives.ensures ∙ ap (λ alternatives. obeyed_alternatives (alternatives_in alternatives)) c.as_slice-in-Case.ensures ∙ sym h
