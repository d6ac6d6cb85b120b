use Rattle.std.proofs.Common.{◌+◌, ◌≤◌, length}
use Rattle.qs_syncset.specs.held.Dataflow.{IsWork, state, turns_left}
use Rattle.qs_syncset.proofs.held.dataflow.run.Given as goal

abbrev pub invariant-turns : goal.invariant-turns
invariant-turns g l =
    let now = state l.reached l.sets l.list in
    record {
      work : IsWork l.graph now;
      counted : l.fn.turns + length l.fn.list ≤ l.turns + length l.list;
      cost : l.turns + turns_left now ≤ l.fn.turns + turns_left (state l.fn.reached l.fn.sets l.fn.list);
    }

abbrev pub decreases-turns : goal.decreases-turns
decreases-turns g l = turns_left (state l.reached l.sets l.list)
