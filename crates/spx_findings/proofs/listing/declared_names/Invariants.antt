use Rattle.std.proofs.Common.{◌≡◌, map, take}
use Rattle.spx_core.specs.declared.program.Var.{Var}
use Rattle.spx_findings.proofs.listing.declared_names.Given as goal

abbrev pub invariant-loop-var : goal.invariant-loop-var
invariant-loop-var l = l.declared ≡ map (λ (var : Var). var.name) (take l.var-index l.program.vars)
