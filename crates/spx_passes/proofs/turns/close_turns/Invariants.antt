use Rattle.spx_passes.proofs.turns.close_turns.Given as goal

abbrev pub ghosts-close_counted : goal.ghosts-close_counted
ghosts-close_counted a = record { name = a.blank.name; parts = a.blank.parts }
