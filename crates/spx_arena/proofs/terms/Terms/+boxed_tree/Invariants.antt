use Rattle.spx_arena.proofs.terms.Terms.+boxed_tree.Given as goal

abbrev pub decreases-boxed_tree : goal.decreases-boxed_tree
decreases-boxed_tree l = l.id.0
