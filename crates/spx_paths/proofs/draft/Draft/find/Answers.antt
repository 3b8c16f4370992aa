use Rattle.spx_paths.proofs.CheckSteps.{check_finds, check_keeps}
use Rattle.spx_paths.proofs.draft.Draft.find.Goals as goal

pub returns-clause-keeps : goal.returns-clause-keeps
returns-clause-keeps c = check_keeps (record { kind = c.args.kind; place = c.args.place; goals = c.in_ok-goals.goals }) c.requires.whole c.in_ok-goals.ensures c.in_ok-push.ensures.ok

pub returns-clause-finds : goal.returns-clause-finds
returns-clause-finds c = check_finds (record { kind = c.args.kind; place = c.args.place; goals = c.in_ok-goals.goals }) c.requires.whole c.in_ok-goals.ensures c.in_ok-push.ensures.ok
