use Rattle.std.proofs.Common.{◌≡◌, ◌++◌, drop}
use Rattle.indexmap.specs.IndexMap.{get}
use Rattle.spx_derives.specs.Differences.{differences_from}
use Rattle.spx_derives.specs.Tables.{same_var}
use Rattle.spx_derives.proofs.differences.add_differences.Given as goal

abbrev pub invariant-loop-w : goal.invariant-loop-w
invariant-loop-w l =
    l.found.items ++ differences_from l.flows l.tables.declared (get same_var l.tables.exports) l.vars l.w (drop l.w l.vars)
    ≡ l.initial.found.items ++ differences_from l.flows l.tables.declared (get same_var l.tables.exports) l.vars 0 l.vars
