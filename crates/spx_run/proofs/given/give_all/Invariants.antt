use Rattle.std.proofs.Common.{◌≡◌, drop, length}
use Rattle.spx_run.specs.Given.{store_with}
use Rattle.spx_run.proofs.given.give_all.Given as goal

abbrev pub invariant-loop-line : goal.invariant-loop-line
invariant-loop-line l = record {
  given : store_with l.entry.program.now l.entry.sub.now (drop l.line-index l.lines) l.store ≡ store_with l.entry.program.now l.entry.sub.now l.lines l.initial.store;
  room : length l.store ≡ length l.initial.store;
}
