use Rattle.spx_arena.proofs.Ids.{wider_ids}
use Rattle.spx_steps.proofs.Arena.{more_twice}
use Rattle.spx_paths.specs.Enclosing.{counts}
use Rattle.spx_paths.proofs.KnownLaws.{cut_made, more_along, pre_on_entry}
use Rattle.spx_paths.proofs.draft.Draft.from_cut.Goals as goal

pub assume_all-requires-clause-facts : goal.assume_all-requires-clause-facts
assume_all-requires-clause-facts c =
    let more = more_twice c.in_ok-add_counts.ensures.grown c.in_ok-add_pre.ensures.grown in
    wider_ids c.args.known.now more.terms.more c.requires.known

pub returns : goal.returns
returns c =
    let p = c.args.body.now.program.now in
    let sub = c.args.body.now.sub.now in
    let pre = more_along c.add_counts.new.facts _ _ c.in_ok-add_pre.ensures (pre_on_entry p sub c.args.body.now.interface c.requires.interface sub.pre) in
    cut_made c.new-facts.result c.add_counts.new.facts p sub (counts c.args.within.now) c.args.known.now c.as_slice.result.now c.args.next c.requires.known c.requires.within c.new-facts.ensures
    c.in_ok-add_counts.ensures pre c.in_ok-at.ensures c.as_slice.ensures c.in_ok-id.ensures
