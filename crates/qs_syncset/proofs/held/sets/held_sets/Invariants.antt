use Rattle.qs_syncset.proofs.held.sets.held_sets.Given as goal

abbrev pub ghosts-newly_counted : goal.ghosts-newly_counted
ghosts-newly_counted a = record { name = a.blank.name; parts = a.blank.parts }
