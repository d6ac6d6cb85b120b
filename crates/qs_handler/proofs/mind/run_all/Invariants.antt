use Rattle.std.proofs.Common.{◌≡◌, length}
use Rattle.qs_chunk.specs.audit.Runs.{ran_all}
use Rattle.qs_handler.proofs.mind.run_all.Given as goal

-- what is left to run leads to the same end; the chunk keeps its capacity
abbrev pub invariant-loop-request : goal.invariant-loop-request
invariant-loop-request l = record {
  to_run : ran_all l.held l.ticket l.chunk.items ≡ ran_all l.initial.held l.ticket l.initial.chunk.items;
  capacity : l.chunk.capacity ≡ l.initial.chunk.capacity;
}

abbrev pub decreases-loop-request : goal.decreases-loop-request
decreases-loop-request l = length l.chunk.items
