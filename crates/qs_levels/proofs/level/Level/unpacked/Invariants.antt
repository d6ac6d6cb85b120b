use Rattle.std.proofs.Common.{◌≡◌, take}
use Rattle.qs_levels.proofs.level.Level.unpacked.Given as goal

abbrev pub invariant-loop-place : goal.invariant-loop-place
invariant-loop-place l = l.all.items ≡ take l.place l.self.standings
