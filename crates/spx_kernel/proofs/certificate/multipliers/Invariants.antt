use Rattle.std.proofs.Common.{◌≡◌, ◌++◌, map, drop}
use Rattle.spx_kernel.specs.Certificates.{multiplier}
use Rattle.spx_kernel.proofs.certificate.multipliers.Given as goal

abbrev pub invariant-loop-entry : goal.invariant-loop-entry
invariant-loop-entry l = map multiplier l.entries ≡ l.multipliers ++ map multiplier (drop l.entry-index l.entries)
