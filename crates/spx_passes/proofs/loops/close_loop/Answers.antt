use Rattle.std.proofs.Common.{sym}
use Rattle.std.proofs.lemmas.Result.{on_ok_weaker}
use Rattle.spx_passes.proofs.loops.close_loop.Goals as goal

pub returns-in-Tested : goal.returns-in-Tested
returns-in-Tested c = on_ok_weaker c.after_tested.result (λ closes. rw (c.in-Forward.is, c.in-Tested.is, sym c.as_slice-reads.ensures) (closes c.args.stays)) c.after_tested.ensures

pub returns-in-Counted : goal.returns-in-Counted
returns-in-Counted c = on_ok_weaker c.after_counted.result (λ closes. rw (c.in-Forward.is, c.in-Counted.is) (closes c.args.stays)) c.after_counted.ensures

pub returns-in-Tested-head : goal.returns-in-Tested-head
returns-in-Tested-head c = on_ok_weaker c.before_tested.result (λ closes. rw (c.in-Backward.is, c.in-Tested-head.is, sym c.as_slice-reads-in-Tested-head.ensures) (closes c.args.stays)) c.before_tested.ensures

pub returns-in-Counted-head : goal.returns-in-Counted-head
returns-in-Counted-head c = on_ok_weaker c.before_counted.result (λ closes. rw (c.in-Backward.is, c.in-Counted-head.is) (closes c.args.stays)) c.before_counted.ensures
