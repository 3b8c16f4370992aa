use Rattle.std.proofs.Common.{◌∙◌, length, get_or, subst}
use Rattle.spx_arena.specs.declared.facts.FactsId.{FactsId}
use Rattle.spx_simplify.specs.declared.judge.Question.{Question}
use Rattle.spx_simplify.specs.Tables.{Knows}
use Rattle.spx_simplify.specs.Questions.{hyps_at}
use Rattle.spx_simplify.proofs.Judging.{question_within, fold_within, answer_is, answers_more, judges_after}
use Rattle.spx_simplify.proofs.judge.judged.Goals as goal

pub reach-requires-clause-target : goal.reach-requires-clause-target
reach-requires-clause-target c = (question_within c.args.questions.now (length c.args.folds.now) (length c.args.facts.now) c.loop-question.question-index _ c.requires.questions c.loop-question-test.true).0

pub fold_at-goal-requires : goal.fold_at-goal-requires
fold_at-goal-requires c = (question_within c.args.questions.now (length c.args.folds.now) (length c.args.facts.now) c.loop-question.question-index _ c.requires.questions c.loop-question-test.true).1

pub loop-question-preserved : goal.loop-question-preserved
loop-question-preserved c =
    let ts = c.args.terms.now in
    let facts = c.args.facts.now in
    let qs = c.args.questions.now in
    let i = c.loop-question.question-index in
    let d : Question = record { facts = record { 0 = 0 }; goal = record { 0 = 0 } } in
    let q = get_or qs i d in
    let reached = c.in_ok-reach.ensures in
    let h = c.in_ok-yes.ensures in
    let known = subst (λ (x : FactsId). Knows ts (hyps_at ts facts x) c.reach.new.self.known) reached.reached reached.judges.knows in
    let within = (question_within qs (length c.args.folds.now) (length facts) i d c.requires.questions c.loop-question-test.true).1 in
    let tree = (fold_within ts c.args.folds.now q.goal c.fold_at-goal.result c.requires.folds within c.fold_at-goal.ensures).tree in
    record {
      judges = judges_after ts facts c.reach.new.self c.closes.new.self reached.judges h.at h.trail h.sized h.knows;
      answers = c.in_ok-push.ensures.ok ∙ answers_more ts facts qs c.loop-question.answers i d c.in_ok-yes.yes c.loop-question-test.true c.loop-question.invariant.answers
          (answer_is ts facts q c.fold_at-goal.result c.in_ok-yes.yes tree (h.closes (hyps_at ts facts q.facts) known));
    }
