use Rattle.std.proofs.Common.{◌≡◌, ◌&&◌, drop}
use Rattle.qs_played.specs.audit.Schedule.{all_named}
use Rattle.qs_played.proofs.schedule.picks.are_named.Given as goal

abbrev pub invariant-loop-pick : goal.invariant-loop-pick
invariant-loop-pick l = (l.named && all_named l.program (drop l.pick-index l.picks)) ≡ all_named l.program l.picks
