use Rattle.spx_paths.proofs.KnownLaws.{first_known, more_along, pre_at_start}
use Rattle.spx_paths.proofs.draft.Draft.first_facts.Goals as goal

pub returns : goal.returns
returns c =
    let p = c.args.body.now.program.now in
    let sub = c.args.body.now.sub.now in
    let is = pre_at_start p sub c.args.body.now.interface c.requires.interface sub.pre in
    first_known c.new-facts.result c.add_imports.new.facts p sub c.new-facts.ensures c.in_ok-add_imports.ensures (more_along c.add_imports.new.facts _ _ c.in_ok-add_pre.ensures is)
