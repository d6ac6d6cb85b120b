use Rattle.qs_conditions.proofs.values.+more.Given as goal

abbrev pub decreases-more : goal.decreases-more
decreases-more l = l.left
