use Rattle.std.proofs.Common.{◌≡◌, drop}
use Rattle.spx_core.specs.Judged.{each}
use Rattle.spx_core.specs.Statements.{judged_field}
use Rattle.spx_typing.proofs.declaration.judge_fields.Given as goal

abbrev pub invariant-loop-field : goal.invariant-loop-field
invariant-loop-field l = each judged_field l.fields ≡ each judged_field (drop l.field-index l.fields)
