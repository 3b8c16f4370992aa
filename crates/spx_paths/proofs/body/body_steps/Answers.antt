use Rattle.std.proofs.Common.{refl}
use Rattle.spx_paths.proofs.BodyLaws.{has_many}
use Rattle.spx_paths.proofs.body.body_steps.Goals as goal

pub returns-then-branch-clause-refused : goal.returns-then-branch-clause-refused
returns-then-branch-clause-refused c = (refl, has_many c.args.program.now c.args.sub.now c.in_ok-all.all c.in_ok-all.ensures c.in_ok-has_many.ensures c.if-branch.true)

pub returns-clause-few : goal.returns-clause-few
returns-clause-few c = has_many c.args.program.now c.args.sub.now c.in_ok-all.all c.in_ok-all.ensures c.in_ok-has_many.ensures c.if-branch.false
