use Rattle.std.proofs.Common.{subst, sym, ◌∙◌}
use Rattle.spx_core.specs.Mirror.VarSets.{holds}
use Rattle.spx_passes.specs.Occurrences.{AreRows}
use Rattle.spx_passes.specs.Loops.{read_points}
use Rattle.spx_passes.specs.Points.{on_variables}
use Rattle.spx_passes.proofs.LoopPasses.{forward_while}
use Rattle.spx_passes.proofs.PassLaws.{forward_turn}
use Rattle.spx_passes.proofs.loops.after_tested.Goals as goal

pub spread-requires-clause-beside : goal.spread-requires-clause-beside
spread-requires-clause-beside c = record {
  once = c.requires.once;
  size = c.in_ok-head.ensures.size ∙ c.in_ok-first.ensures.size;
  ends = c.in_ok-ends.ensures.size;
  rows = subst (λ n. AreRows n c.turned.new.list) c.in_ok-first.ensures.size c.in_ok-head.ensures.carried.rows;
}

pub replace-requires-clause-head : goal.replace-requires-clause-head
replace-requires-clause-head c =
    let keys = c.args.targets.now.keys in
    let test = c.in_ok-spread.ensures (read_points c.args.reads.now) (on_variables (λ v. holds keys v)) (rw (sym c.as_slice-from.ensures.value) at c.in_ok-from.ensures.exact) (rw (sym c.as_slice-to.ensures.value) at c.in_ok-to.ensures.exact) in
    test.size ∙ c.in_ok-ends.ensures.size ∙ sym c.requires.size

pub returns : goal.returns
returns c stays body start covers known leaves begins steps =
    let frame = c.args.frame.now in
    let reads = c.args.reads.now in
    let keys = c.args.targets.now.keys in
    let turn = c.args.turn.now in
    let first = c.in_ok-first in
    let head = c.in_ok-head in
    let ends = c.in_ok-ends in
    let test = c.in_ok-spread.ensures (read_points reads) (on_variables (λ v. holds keys v)) (rw (sym c.as_slice-from.ensures.value) at c.in_ok-from.ensures.exact) (rw (sym c.as_slice-to.ensures.value) at c.in_ok-to.ensures.exact) in
    forward_while frame reads body c.args.place covers (λ v. holds keys v) known turn.flow turn.inner c.args.state.now first.first head.head ends.ends c.spread.new.rows c.replace.new.rows c.args.lambda.now c.turned.new.list c.spread.new.list
    c.requires.rows c.requires.size first.ensures.size ends.ensures.size first.ensures.pairs (forward_turn frame body start turn.flow turn.inner begins.0 begins.1 steps) head.ensures ends.ensures.pairs test c.replace.ensures.size c.replace.ensures.pairs
