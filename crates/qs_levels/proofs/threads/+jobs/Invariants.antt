use Prim.Native.Nat.{◌+◌, ◌*◌}
use Rattle.std.proofs.Common.{length}
use Rattle.qs_levels.proofs.threads.+jobs.Given as goal

abbrev pub decreases-in_turn : goal.decreases-in_turn
decreases-in_turn g l = 2 * length l.jobs.items

abbrev pub decreases-front : goal.decreases-front
decreases-front g l = 2 * length l.jobs.items + 1

abbrev pub decreases-back : goal.decreases-back
decreases-back g l = 2 * length l.others.items + 1
