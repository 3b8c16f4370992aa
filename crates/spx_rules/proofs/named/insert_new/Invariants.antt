use Rattle.std.proofs.Common.{◌≡◌, List, ◌++◌, drop}
use Rattle.spx_core.specs.declared.name.Reference.{Reference}
use Rattle.spx_core.specs.Mirror.VarSets.{holds}
use Rattle.spx_rules.specs.NamedOnce.{all_new}
use Rattle.spx_rules.proofs.named.insert_new.Given as goal

abbrev pub invariant-loop-name : goal.invariant-loop-name
invariant-loop-name l = (rest : List Reference) → all_new (holds l.initial.set) (l.names ++ rest) ≡ all_new (holds l.set) (drop l.name-index l.names ++ rest)
