use Rattle.spx_steps.proofs.MemoLaws.{one_made}
use Rattle.spx_steps.proofs.memo.Memo.set.Goals as goal

pub returns : goal.returns
returns c = one_made c.self.inside.turn c.self.inside.entries c.set.new.self c.args.self.now c.args.id c.args.into c.self.view_is c.requires c.set.ensures
