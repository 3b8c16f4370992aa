use Rattle.std.proofs.Common.{◌≤◌, ◌∙◌, ap, arith, length, List}
use Rattle.spx_arena.specs.declared.terms.TermId.{TermId}
use Rattle.spx_arena.proofs.Growth.{grows_twice}
use Rattle.spx_arena.proofs.Ids.{wider_lists}
use Rattle.spx_simplify.proofs.Judging.{wider_questions, answers_kept}
use Rattle.spx_simplify.proofs.judge.answers.Goals as goal

pub judged-requires-clause-facts : goal.judged-requires-clause-facts
judged-requires-clause-facts c =
    let folds : List TermId = c.as_slice.result.now in
    let more = c.in_ok-falsity.ensures.grown.more in
    let room : length c.args.terms.now ≤ length folds = omega (arith, ap length c.as_slice.ensures, c.in_ok-folds.ensures.all) in
    wider_lists c.args.facts.now room c.requires.facts

pub judged-requires-clause-questions : goal.judged-requires-clause-questions
judged-requires-clause-questions c =
    let folds : List TermId = c.as_slice.result.now in
    let more = c.in_ok-falsity.ensures.grown.more in
    let room : length c.args.terms.now ≤ length folds = omega (arith, ap length c.as_slice.ensures, c.in_ok-folds.ensures.all) in
    wider_questions c.args.questions.now (length c.args.facts.now) room c.requires.questions

pub returns-clause-answers : goal.returns-clause-answers
returns-clause-answers c =
    c.in_ok-answers.ensures
    ∙ answers_kept (grows_twice c.in_ok-falsity.ensures.grown c.in_ok-folds.ensures.grown) c.args.facts.now (length c.args.facts.now) c.args.questions.now c.requires.facts c.requires.questions
