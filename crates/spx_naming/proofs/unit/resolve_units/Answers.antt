use Rattle.spx_naming.proofs.Programs.{unit_step}
use Rattle.spx_naming.proofs.unit.resolve_units.Goals as goal

pub loop-unit-preserved : goal.loop-unit-preserved
loop-unit-preserved c =
    unit_step c.args.units.now c.loop-unit.unit-index c.loop-unit.library _ c.loop-unit.tables _ c.loop-unit.subs _ _ _ _ c.unit-item.result c.subprogram_of-subprogram.result.now _ _
    c.loop-unit-test.true c.unit-item.is c.subprogram_of-subprogram.ensures
    (rw c.len.ensures at c.in_ok-name.ensures) c.in_ok-sub.ensures (rw c.into_inner.ensures at c.in_ok-push.ensures.ok) c.loop-unit.invariant
