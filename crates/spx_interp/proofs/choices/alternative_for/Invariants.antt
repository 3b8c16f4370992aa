use Rattle.std.proofs.Common.{◌≡◌, ℕ, drop}
use Rattle.spx_meaning.specs.Frames.{Frame}
use Rattle.spx_meaning.specs.Stores.{Store}
use Rattle.spx_interp.specs.Results.{ran_alternatives}
use Rattle.spx_interp.proofs.choices.alternative_for.Given as goal

-- none before this one has the value
abbrev pub invariant-loop-k : goal.invariant-loop-k
invariant-loop-k l = (f : Frame) (n : ℕ) (s : Store) → ran_alternatives l.value f n s l.alternatives ≡ ran_alternatives l.value f n s (drop l.k l.alternatives)
