use Rattle.std.proofs.Common.{drop, Option}
use Rattle.qs_played.proofs.Names.{State, IsStart}
use Rattle.qs_played.proofs.twin.starts.state_before.Given as goal

abbrev pub invariant-loop-entry : goal.invariant-loop-entry
invariant-loop-entry l =
    (found : Option State) → IsStart l.state l.ticket (drop l.entry-index l.journal) found → IsStart l.fn.state l.ticket l.journal found
