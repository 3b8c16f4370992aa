use Rattle.std.proofs.Common.{◌≡◌, ◌<◌, ℕ, length}
use Rattle.spx_steps.specs.Entries.{turn_at}
use Rattle.spx_steps.proofs.memo.clear.Given as goal

abbrev pub invariant-loop-at : goal.invariant-loop-at
invariant-loop-at l = record {
  count : length l.entries ≡ length l.initial.entries;
  turns : (j : ℕ) → j < l.at → turn_at l.entries j ≡ 0;
}
