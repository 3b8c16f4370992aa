use Rattle.std.proofs.Common.{◌≡◌, [], ◌∷◌, ◌++◌, ap, sym, ◌∙◌}
use Rattle.std.specs.List.{flat_map}
use Rattle.spx_paths.specs.declared.within.Within.{fold_out-Within}
use Rattle.spx_paths.specs.declared.within.Within.TheVariants.{Inside, Outermost, outs-Inside, outs-Outermost}
use Rattle.spx_paths.specs.Enclosing.{counts}
use Rattle.spx_paths.specs.Walks.{count_facts}
use Rattle.spx_paths.proofs.KnownLaws.{counts_more, more_along, none_more}
use Rattle.spx_paths.proofs.draft.Draft.+add_counts.Goals as goal

pub returns-in-Outermost : goal.returns-in-Outermost
unfolding counts
returns-in-Outermost t c =
    let none : counts Outermost ≡ [] = rw (fold_out-Within, outs-Outermost) in
    let is : counts c.args.within.now ≡ [] = ap counts c.in-Outermost.is ∙ none in
    more_along c.args.facts.now [] (flat_map (count_facts c.args.body.now.program.now c.args.body.now.sub.now) (counts c.args.within.now)) (none_more c.args.facts.now c.requires.order c.requires.facts)
    (ap (flat_map (count_facts c.args.body.now.program.now c.args.body.now.sub.now)) (sym is))

pub returns-in_ok-add_count-in-Inside : goal.returns-in_ok-add_count-in-Inside
unfolding counts
returns-in_ok-add_count-in-Inside t c =
    let outer = counts c.in-Inside.outer.now in
    let count = c.in-Inside.count.now in
    let at : counts (Inside c.in-Inside.outer c.in-Inside.count) ≡ outer ++ count ∷ [] = rw (fold_out-Within, outs-Inside) in
    let is : counts c.args.within.now ≡ outer ++ count ∷ [] = ap counts c.in-Inside.is ∙ at in
    counts_more c.args.facts.now c.add_counts.new.facts c.args.body.now.program.now c.args.body.now.sub.now outer (counts c.args.within.now) count is c.in_ok-add_counts-in-Inside.ensures c.in_ok-add_count-in-Inside.ensures
