use Rattle.std.proofs.Common.{◌≡◌, ◌++◌, drop}
use Rattle.spx_derives.specs.Differences.{differences_to}
use Rattle.spx_derives.proofs.differences.add_differences_to.Given as goal

abbrev pub invariant-loop-u : goal.invariant-loop-u
invariant-loop-u l =
    l.found.items ++ differences_to l.flows l.declared l.w l.export l.place l.u (drop l.u l.imports)
    ≡ l.initial.found.items ++ differences_to l.flows l.declared l.w l.export l.place 0 l.imports
