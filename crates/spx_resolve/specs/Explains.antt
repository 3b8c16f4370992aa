-- Why units are no program that keeps the rules on names and types.
use Rattle.std.specs.Prelude.{◌≡◌, ⊤, Option, Some}
use Rattle.spx_core.specs.declared.rule.Breach.{Breach as RuleBreach}
use Rattle.spx_resolve.specs.declared.fault.ResolveFault.{ResolveFault}
use Rattle.spx_resolve.specs.declared.fault.ResolveFault.TheVariants.{Breach, Memory}

-- this is the breach, unless memory ran out
abbrev pub Explains : Option RuleBreach → ResolveFault → Type 0
Explains found Memory = ⊤
Explains found (Breach breach) = found ≡ Some breach
