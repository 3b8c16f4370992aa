use Rattle.std.proofs.Common.{◌≡◌, drop}
use Rattle.spx_core.specs.Judged.{each}
use Rattle.spx_core.specs.Statements.{judged_variable}
use Rattle.spx_typing.proofs.statement.judge_variables.Given as goal

abbrev pub invariant-loop-reference : goal.invariant-loop-reference
invariant-loop-reference l = each judged_variable l.references ≡ each judged_variable (drop l.reference-index l.references)
