-- The warnings of the requests before this one are there.
use Rattle.std.proofs.Common.{◌≡◌, ◌++◌, flat_map}
use Rattle.qs_messages.specs.Warnings.{below, certainty_warnings_at}
use Rattle.qs_messages.proofs.warned.finding.add_each.Given as goal

abbrev pub invariant-loop-request : goal.invariant-loop-request
invariant-loop-request l = l.out.items ≡ l.initial.out.items ++ flat_map (certainty_warnings_at l.client l.block l.certainties) (below l.request)
