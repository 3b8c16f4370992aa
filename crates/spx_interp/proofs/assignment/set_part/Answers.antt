use Rattle.std.proofs.Common.{map, sym}
use Rattle.spx_interp.specs.Ways.{step_of}
use Rattle.spx_interp.proofs.PartLaws.{part_put}
use Rattle.spx_interp.proofs.assignment.set_part.Goals as goal

pub returns-in-Ok : goal.returns-in-Ok
returns-in-Ok c = λ types.
    part_put types c.args.place c.args.var (map step_of c.args.way.now) c.args.value c.in-Some.old c.in-Ok.new c.args.store.now c.take.new.slots c.put.new.slots
    (sym c.in-Some.ensures.value) c.in-Some.ensures.rest (c.in-Ok.ensures types) c.put.ensures
