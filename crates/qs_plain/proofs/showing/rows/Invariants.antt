use Rattle.qs_plain.specs.BegunBlocks.{AreRows}
use Rattle.qs_plain.proofs.showing.rows.Given as goal

abbrev pub invariant-loop-client : goal.invariant-loop-client
invariant-loop-client l = AreRows l.rows.items l.yielded
