use Rattle.std.proofs.Common.{◌≡◌, drop}
use Rattle.spx_core.specs.Judged.{breach_in, each}
use Rattle.spx_core.specs.Obeyed.{obeyed_sub}
use Rattle.spx_rules.proofs.program.obey_subs.Given as goal

abbrev pub invariant-loop-sub : goal.invariant-loop-sub
invariant-loop-sub l = breach_in (each obeyed_sub l.subs) ≡ breach_in (each obeyed_sub (drop l.sub-index l.subs))
