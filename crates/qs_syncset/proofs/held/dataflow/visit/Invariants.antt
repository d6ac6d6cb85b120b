use Rattle.std.proofs.Common.{ℕ, length, take}
use Rattle.qs_graph.specs.audit.Paths.{IsAmong}
use Rattle.qs_objects.specs.ByteSets.{in_byte}
use Rattle.qs_syncset.specs.held.Dataflow.{holding_of_node, reached_at, set_at, state, turns_left}
use Rattle.qs_syncset.specs.held.Flow.{HasArrived}
use Rattle.qs_syncset.proofs.held.Visits.{IsVisit}
use Rattle.qs_syncset.proofs.held.dataflow.visit.Given as goal

abbrev pub invariant-loop-to : goal.invariant-loop-to
invariant-loop-to l =
    let before = state l.fn.reached l.fn.sets l.fn.list in
    let now = state l.reached l.sets l.list in
    record {
      visit : IsVisit l.graph l.node (set_at before l.node) (length before.list) (turns_left before) now;
      arrived : (n : ℕ) → IsAmong n (take l.to-index l.to-items) → HasArrived (reached_at now) (holding_of_node now) n (in_byte l.out);
    }
