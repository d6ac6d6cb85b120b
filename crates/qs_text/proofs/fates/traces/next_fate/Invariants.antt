use Rattle.std.proofs.Common.{◌≡◌}
use Rattle.qs_text.specs.fates.Picked.{picked_from}
use Rattle.qs_text.proofs.fates.traces.next_fate.Given as goal

abbrev pub invariant-loop-place : goal.invariant-loop-place
invariant-loop-place l = picked_from l.ticket l.journal l.fates l.place ≡ picked_from l.ticket l.journal l.fates l.start
