use Rattle.std.proofs.Common.{◌≡◌, ◌++◌, map, take}
use Rattle.spx_core.specs.Resolved.{var_of}
use Rattle.spx_naming.proofs.tables.add_variables.Given as goal

abbrev pub invariant-loop-name : goal.invariant-loop-name
invariant-loop-name l = l.vars ≡ l.initial.vars ++ map var_of (take l.name-index l.declared)
