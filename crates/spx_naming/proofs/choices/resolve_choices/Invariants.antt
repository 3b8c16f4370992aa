use Rattle.std.proofs.Common.{◌≡◌, map, take}
use Rattle.spx_core.specs.ResolvedStatements.{resolved_choice}
use Rattle.spx_scope.specs.Seen.{seen}
use Rattle.spx_naming.proofs.choices.resolve_choices.Given as goal

abbrev pub invariant-loop-choice : goal.invariant-loop-choice
invariant-loop-choice l = l.resolved ≡ map (resolved_choice l.scene (seen l.scope)) (take l.choice-index l.choices)
