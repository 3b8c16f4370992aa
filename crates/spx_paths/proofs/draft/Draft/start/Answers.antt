use Rattle.spx_paths.proofs.KnownLaws.{started}
use Rattle.spx_paths.proofs.draft.Draft.start.Goals as goal

pub returns : goal.returns
returns c =
    started c.args.body.now.program.now c.args.body.now.sub.now c.as_slice.result.now c.args.first c.requires.within c.in_ok-facts.ensures c.as_slice.ensures c.in_ok-known.ensures c.in_ok-initialized.ensures c.in_ok-id.ensures
