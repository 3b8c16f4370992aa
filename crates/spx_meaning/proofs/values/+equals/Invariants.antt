use Rattle.std.proofs.Common.{◌≡◌, take}
use Rattle.spx_meaning.proofs.values.+equals.Given as goal

abbrev pub invariant-are_equal-loop-k : goal.invariant-are_equal-loop-k
invariant-are_equal-loop-k l = take l.k l.xs ≡ take l.k l.ys
