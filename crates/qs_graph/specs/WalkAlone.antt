-- A walk by itself: each request is done at once.
use Rattle.std.specs.Prelude.{ℕ, zero, suc, List, [], None}
use Rattle.qs_objects.specs.audit.Journals.{answer}
use Rattle.qs_program.specs.audit.Values.{Locals}
use Rattle.qs_meaning.specs.audit.Solo.{States, BlockResult, states_after, value_of, event}
use Rattle.qs_meaning.specs.Interaction.{after_event}
use Rattle.qs_graph.specs.audit.Nodes.{GraphNode}
use Rattle.qs_graph.specs.audit.Walk.{Spot, Move, Ends, Goes, Calls, Syncs, Queries, move}

-- what a move does and what `go` does after it
abbrev pub result_of_move : (Spot → States → BlockResult) → Locals → States → Move → BlockResult
result_of_move go l st Ends = record { trace = []; locals = l; states = st }
result_of_move go l st (Goes s) = go s st
result_of_move go l st (Calls r s) = after_event (event r None) (go s (states_after st r))
result_of_move go l st (Syncs h s) = go s st
result_of_move go l st (Queries r s) =
    let v = answer (st r.object) r in after_event (event r v) (go (s (value_of v)) (states_after st r))

-- a walk of at most n nodes, each request done at once
abbrev pub walk_alone : List GraphNode → ℕ → Spot → States → BlockResult
walk_alone g zero s st = record { trace = []; locals = s.locals; states = st }
walk_alone g (suc n) s st = result_of_move (walk_alone g n) s.locals st (move g s)
