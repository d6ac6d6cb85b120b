-- It is the sum of the counts before this place, each of which is below 2^32.
use Rattle.std.proofs.Common.{◌≡◌, ◌≤◌, ◌*◌, ◌^◌, sum, take}
use Rattle.qs_report.proofs.alike.all_of.Given as goal

abbrev pub invariant-loop-count : goal.invariant-loop-count
invariant-loop-count l = (l.all ≡ sum (take l.count-index l.counts)) × (l.all ≤ l.count-index * 2 ^ 32)
