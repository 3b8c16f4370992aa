use Rattle.std.proofs.Common.{◌≡◌, map, take}
use Rattle.spx_simplify.specs.Questions.{answer, Judges}
use Rattle.spx_simplify.proofs.judge.judged.Given as goal

abbrev pub invariant-loop-question : goal.invariant-loop-question
invariant-loop-question l = record {
  judges : Judges l.terms l.facts l.judge;
  answers : l.answers ≡ map (answer l.terms l.facts) (take l.question-index l.questions);
}
