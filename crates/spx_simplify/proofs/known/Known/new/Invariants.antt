use Rattle.std.proofs.Common.{◌≡◌, ℕ, length, false}
use Rattle.spx_term.specs.Intervals.{unbounded}
use Rattle.spx_simplify.specs.Tables.{test_at, interval_at}
use Rattle.spx_simplify.proofs.known.Known.new.Given as goal

abbrev pub invariant-loop-at : goal.invariant-loop-at
invariant-loop-at l = record {
  facts : length l.facts ≡ l.at;
  bounds : length l.bounds ≡ l.at;
  said : length l.said ≡ l.at;
  places : length l.places ≡ l.at;
  none : (i : ℕ) → test_at l.facts i ≡ false;
  free : (i : ℕ) → interval_at l.bounds i ≡ unbounded;
  unsaid : (i : ℕ) → test_at l.said i ≡ false;
}
