use Rattle.std.proofs.Common.{◌≡◌, drop}
use Rattle.spx_core.specs.NamedParts.{field_named}
use Rattle.spx_naming.proofs.steps.field_named.Given as goal

abbrev pub invariant-loop-position : goal.invariant-loop-position
invariant-loop-position l = field_named l.id l.position (drop l.position l.fields) l.word ≡ field_named l.id 0 l.fields l.word
