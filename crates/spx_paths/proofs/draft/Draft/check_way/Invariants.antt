use Rattle.std.proofs.Common.{take}
use Rattle.spx_formula.specs.Terms.{now_term}
use Rattle.spx_paths.specs.Checks.{way_checks}
use Rattle.spx_paths.specs.Waiting.{Finds, Keeps}
use Rattle.spx_paths.proofs.draft.Draft.check_way.Given as goal

abbrev pub invariant-loop-step : goal.invariant-loop-step
invariant-loop-step l = record {
  keeps : Keeps l.initial.self l.self;
  finds : Finds l.initial.self l.self (way_checks l.program (now_term l.program) (take l.step-index l.way));
}
