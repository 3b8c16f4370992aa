use Rattle.spx_paths.proofs.KnownLaws.{all_vars}
use Rattle.spx_paths.proofs.draft.Draft.known_at_cuts.Goals as goal

pub returns : goal.returns
returns c =
    all_vars c.new-facts.result c.add_vars.new.facts c.add_vars-2.new.facts c.args.body.now.program.now c.args.body.now.sub.now c.formals.result.now c.locals.result.now c.formals.ensures c.locals.ensures c.new-facts.ensures
    c.in_ok-add_vars.ensures c.in_ok-add_vars-2.ensures c.in_ok-add_entries.ensures
