use Rattle.spx_paths.proofs.CheckSteps.{only_keeps, ready_whole}
use Rattle.spx_paths.proofs.PartSets.{checks_wait, part_made}
use Rattle.spx_paths.proofs.draft.Draft.part_set.Goals as goal

pub check_way-requires : goal.check_way-requires
check_way-requires c = ready_whole c.requires.ready

pub part_assigned-requires-clause-order : goal.part_assigned-requires-clause-order
part_assigned-requires-clause-order c = (only_keeps c.in_ok-value.ensures.keeps.whole c.in_ok-whole.ensures.grown).whole.order

pub lay-requires-clause-checks : goal.lay-requires-clause-checks
lay-requires-clause-checks c =
    let k = only_keeps c.in_ok-value.ensures.keeps.whole c.in_ok-whole.ensures.grown in
    checks_wait k.whole c.in_ok-set.ensures.grown c.in_ok-set.ensures.checks c.in_ok-at.ensures.grown c.in_ok-at.ensures.checks

pub returns : goal.returns
returns c =
    part_made c.args.program.now c.args.target.now c.args.expr.now c.requires.ready c.requires.way c.as_slice-way.ensures c.requires.within
    c.in_ok-check_way.ensures.keeps c.in_ok-check_way.ensures.walks c.in_ok-value.ensures.keeps c.in_ok-value.ensures.within c.in_ok-value.ensures.makes c.in_ok-whole.ensures
    c.in_ok-set.ensures c.part_type.ensures c.place.ensures c.in_ok-at.ensures c.in_ok-id.ensures
