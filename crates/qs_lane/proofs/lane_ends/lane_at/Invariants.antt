use Rattle.qs_lane.proofs.lane_ends.lane_at.Given as goal

abbrev pub ghosts-lane_of : goal.ghosts-lane_of
ghosts-lane_of g a = record { size = a.size }
