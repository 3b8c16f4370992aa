use Rattle.spx_term.proofs.printing.+put_term.Given as goal

abbrev pub decreases-put_term : goal.decreases-put_term
decreases-put_term l = l.room
