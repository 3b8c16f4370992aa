use Rattle.std.proofs.Common.{◌≡◌, rules, sym, ap, ◌∙◌, drop, ◌+◌}
use Rattle.spx_typing.proofs.ChoiceSteps.{alternatives_at, case_judged}
use Rattle.std.specs.Prelude.{⊤}
use Rattle.spx_core.specs.declared.rule.ExprType.{ExprType}
use Rattle.spx_core.specs.Judged.{Judged, ◌>>=◌}
use Rattle.spx_core.specs.Statements.{judged_alternatives, judged_command}
use Rattle.spx_typing.specs.Choices.{alternatives_in, done_in, judged_selector}
use Rattle.spx_typing.proofs.statement.+judge_stmt.Goals as goal

pub judge_alternatives-returns-in_err-judge_choices : goal.judge_alternatives-returns-in_err-judge_choices
judge_alternatives-returns-in_err-judge_choices t c =
    let e = alternatives_at c.args.alternatives.now c.loop-alternative.alternative-index c.alternative-item.result c.loop-alternative-test.true c.alternative-item.is c.args.of in
    let h = sym (c.loop-alternative.invariant ∙ e ∙ ap (λ (x : Judged ⊤). x >>= λ _. judged_command (done_in c.alternative-item.result) >>= λ _. judged_alternatives c.args.of (alternatives_in (drop (c.loop-alternative.alternative-index + 1) c.args.alternatives.now))) (sym c.in_err-judge_choices.ensures)) in
    search (rules, h)

pub judge_alternatives-returns-in_err-judge_chosen : goal.judge_alternatives-returns-in_err-judge_chosen
judge_alternatives-returns-in_err-judge_chosen t c =
    let e = alternatives_at c.args.alternatives.now c.loop-alternative.alternative-index c.alternative-item.result c.loop-alternative-test.true c.alternative-item.is c.args.of in
    let h = c.loop-alternative.invariant ∙ e ∙ ap (λ (x : Judged ⊤). x >>= λ _. judged_command (done_in c.alternative-item.result) >>= λ _. judged_alternatives c.args.of (alternatives_in (drop (c.loop-alternative.alternative-index + 1) c.args.alternatives.now))) (sym c.in_ok-judge_choices.ensures) in
    let k = sym (h ∙ ap (λ (x : Judged ⊤). x >>= λ _. judged_alternatives c.args.of (alternatives_in (drop (c.loop-alternative.alternative-index + 1) c.args.alternatives.now))) (sym c.in_err-judge_chosen.ensures)) in
    search (rules, k)

pub judge_stmt-returns-in_err-of-in-Case : goal.judge_stmt-returns-in_err-of-in-Case
judge_stmt-returns-in_err-of-in-Case t c =
    let here = c.in-Case in
    let h = case_judged c.args.stmt.now here.place here.selector here.alternatives here.field-3 here.is in
    let found : c.judge_selector.result ≡ judged_selector here.place here.selector here.alternatives = cc (c.judge_selector.ensures, c.get-in-Case.ensures, c.as_slice-alternatives.ensures) in
    let k = sym c.in_err-of-in-Case.was ∙ found in
    let e = sym (h ∙ ap (λ (x : Judged ExprType). x >>= λ of. judged_alternatives of (alternatives_in here.alternatives)) (sym k)) in
    search (rules, e)

pub judge_stmt-returns-in_ok-of-in-Case : goal.judge_stmt-returns-in_ok-of-in-Case
judge_stmt-returns-in_ok-of-in-Case t c =
    let here = c.in-Case in
    let h = case_judged c.args.stmt.now here.place here.selector here.alternatives here.field-3 here.is in
    let found : c.judge_selector.result ≡ judged_selector here.place here.selector here.alternatives = cc (c.judge_selector.ensures, c.get-in-Case.ensures, c.as_slice-alternatives.ensures) in
    let k = sym c.in_ok-of-in-Case.was ∙ found in
    let e = h ∙ ap (λ (x : Judged ExprType). x >>= λ of. judged_alternatives of (alternatives_in here.alternatives)) (sym k) in
    c.judge_alternatives.ensures ∙ ap (λ alternatives. judged_alternatives c.in_ok-of-in-Case.of (alternatives_in alternatives)) c.as_slice-alternatives.ensures ∙ sym e
