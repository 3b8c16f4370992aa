use Rattle.std.proofs.Common.{◌≡◌, map}
use Rattle.spx_paths.proofs.body.in_reverse.Given as goal

abbrev pub invariant-loop-id : goal.invariant-loop-id
invariant-loop-id l = l.all ≡ map (λ s. s.now) l.yielded
