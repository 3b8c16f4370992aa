use Rattle.std.proofs.Common.{◌∙◌, subst, sym}
use Rattle.spx_core.specs.Mirror.VarSets.{holds}
use Rattle.spx_passes.specs.Occurrences.{AreRows}
use Rattle.spx_passes.proofs.AssignLaws.{kept_forward, takes_gone}
use Rattle.spx_passes.proofs.LoopPasses.{forward_count, parameter_placed}
use Rattle.spx_passes.proofs.PassLaws.{forward_turn}
use Rattle.spx_passes.proofs.PositionLaws.{place_stands}
use Rattle.spx_passes.proofs.loops.after_counted.Goals as goal

pub returns-in_default : goal.returns-in_default
returns-in_default c stays body start covers known leaves begins steps = absurd (parameter_placed c.args.frame.now c.args.parameter c.args.bounds.now body c.args.place covers (sym c.position.ensures ∙ c.in_default.is))

pub entered-requires-clause-parameter : goal.entered-requires-clause-parameter
entered-requires-clause-parameter c = place_stands c.args.frame.now.vars c.args.parameter c.in-Some.position (sym c.in-Some.ensures)

pub after_bounds-requires : goal.after_bounds-requires
after_bounds-requires c = record {
  once = c.requires.once;
  size = c.requires.size;
  ends = c.in_ok-ends.ensures.size;
  rows = subst (λ n. AreRows n c.turned.new.list) c.in_ok-first.ensures.size c.in_ok-head.ensures.carried.rows;
}

pub returns : goal.returns
returns c stays body begun covers known leaves begins steps =
    let frame = c.args.frame.now in
    let parameter = c.args.parameter in
    let bounds = c.args.bounds.now in
    let keys = c.args.targets.now.keys in
    let at = c.in-Some.position in
    let here = place_stands frame.vars parameter at (sym c.in-Some.ensures) in
    let turn = c.args.turn in
    let vars = c.in_ok-variables in
    let first = c.in_ok-first in
    let head = c.in_ok-head in
    let last = c.in_ok-last in
    let start = c.in_ok-ends in
    let ends = c.after_bounds.new.ends in
    let one = forward_turn frame body begun turn.flow turn.inner begins.0 begins.1 steps in
    let kept = kept_forward frame covers.once parameter at here body turn.flow c.clear_row.new.self c.add.new.self turn.inner one (c.add.ensures.size ∙ c.clear_row.ensures.size) c.clear_row.ensures.pairs c.add.ensures.pairs in
    let gone = takes_gone frame covers.once parameter at here ends c.clear_row-2.new.self c.clear_row-2.ensures.pairs in
    forward_count frame parameter body c.args.place (λ v. holds keys v) known at here c.add.new.self turn.inner bounds covers c.args.state.now vars.variables first.first head.head last.last start.ends ends c.clear_row-2.new.self c.replace.new.rows c.args.lambda.now c.turned.new.list c.after_bounds.new.lambda
    c.requires.size vars.ensures.size first.ensures.size start.ensures.size vars.ensures.pairs first.ensures.rows kept head.ensures last.ensures.0 last.ensures.1 start.ensures.pairs c.in_ok-after_bounds.ensures c.clear_row-2.ensures.size gone c.replace.ensures.size c.replace.ensures.pairs
