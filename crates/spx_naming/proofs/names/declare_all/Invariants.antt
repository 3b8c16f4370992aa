use Rattle.std.proofs.Common.{◌≡◌, ◌+◌, ◌++◌, drop}
use Rattle.spx_core.specs.DeclaredNames.{declaring_all, defining_all}
use Rattle.spx_naming.proofs.names.declare_all.Given as goal

abbrev pub invariant-loop-name : goal.invariant-loop-name
invariant-loop-name l =
    (l.position ≡ l.first + l.name-index)
    × (l.defined ++ defining_all l.region l.meaning l.position (drop l.name-index l.names) ≡ defining_all l.initial.region l.meaning l.first l.names)
    × (declaring_all l.region (defining_all l.region l.meaning l.position (drop l.name-index l.names)) ≡ declaring_all l.initial.region (defining_all l.initial.region l.meaning l.first l.names))
