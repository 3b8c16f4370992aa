use Rattle.spx_core.specs.Mirror.VarSets.{holds}
use Rattle.spx_passes.proofs.RowLaws.{takes_in, takes_in_plain}
use Rattle.spx_passes.proofs.rows.ways_in.Goals as goal

pub returns-then-not-frame-clause-pairs : goal.returns-then-not-frame-clause-pairs
returns-then-not-frame-clause-pairs c =
    takes_in_plain c.args.frame.now c.args.stays (λ v. holds c.args.targets.now.keys v) c.args.rows.now c.in_ok-last.last c.in_ok-last.ensures.pairs c.if-not-frame.true

pub returns-clause-pairs : goal.returns-clause-pairs
returns-clause-pairs c =
    takes_in c.args.frame.now c.args.stays (λ v. holds c.args.targets.now.keys v) c.args.rows.now c.in_ok-last.last c.in_ok-last.ensures.pairs c.if-not-frame.false c.in_ok-left.left c.union_with.new.self c.add_rows_to.new.self
    c.union_with.ensures.pairs c.in_ok-from.from.items c.in_ok-to.to.items c.in_ok-from.ensures.within (rw (c.as_slice.ensures.value, c.as_slice-2.ensures.value) at c.add_rows_to.ensures.pairs) c.in_ok-left.ensures.pairs c.in_ok-from.ensures.exact c.in_ok-to.ensures.exact
