use Rattle.spx_paths.proofs.BodyLaws.{ended_by, ended_not}
use Rattle.spx_paths.proofs.draft.Draft.ending.Goals as goal

pub returns-in-None : goal.returns-in-None
returns-in-None c = ended_not c.args.body.now.program.now c.args.body.now.sub.now c.requires.ready c.requires.begun.cut c.in-None.is

pub returns-in_ok-id-in-Some : goal.returns-in_ok-id-in-Some
returns-in_ok-id-in-Some c = ended_by c.args.body.now.program.now c.args.body.now.sub.now c.in-Some.post c.get-condition.result.now c.in_ok-id-in-Some.ensures c.requires.begun.cut c.in-Some.is c.get-condition.ensures
