use Rattle.std.proofs.Common.{◌∙◌}
use Rattle.spx_core.specs.Effects.{reads_in}
use Rattle.spx_passes.proofs.AssignLaws.{forward_given, stands_in_rows}
use Rattle.spx_passes.proofs.loops.entered.Goals as goal

pub set_row-requires-clause-to : goal.set_row-requires-clause-to
set_row-requires-clause-to c = stands_in_rows c.args.frame.now c.in_ok-start.start c.args.position c.args.parameter (c.in_ok-start.ensures.0 ∙ c.requires.size) c.requires.parameter

pub returns-clause-rows : goal.returns-clause-rows
returns-clause-rows c =
    let from = c.in_ok-from in
    let copy = c.in_ok-start in
    forward_given c.args.frame.now c.requires.once c.args.parameter c.args.position c.requires.parameter (reads_in c.args.bounds.now) c.args.place from.from.items from.ensures.within from.ensures.exact
    c.args.state.now copy.start c.set_row.new.self copy.ensures.1 (rw c.as_slice.ensures.value at c.set_row.ensures.pairs)
