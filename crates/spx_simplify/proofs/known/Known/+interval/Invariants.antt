use Rattle.spx_simplify.proofs.known.Known.+interval.Given as goal

abbrev pub decreases-interval : goal.decreases-interval
decreases-interval l = l.depth
