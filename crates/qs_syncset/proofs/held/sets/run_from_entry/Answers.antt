use Rattle.std.proofs.Common.{◌≡◌, ◌<◌, length, set, true, [], refl, ap, arith}
use Rattle.std.proofs.lemmas.Result.{on_ok_weaker}
use Rattle.qs_graph.specs.WellFormed.{IsGraph}
use Rattle.qs_graph.specs.audit.Nodes.{ControlGraph}
use Rattle.qs_graph.proofs.Inside.{paths_stay_inside}
use Rattle.qs_syncset.specs.held.Dataflow.{state, turns_left}
use Rattle.qs_syncset.proofs.held.Visits.{first_state, begun_left, begun_work, done_sets}
use Rattle.qs_syncset.proofs.held.sets.run_from_entry.Goals as goal

some_node : (graph : ControlGraph) → IsGraph graph.nodes → 0 < length graph.nodes
some_node graph is = omega (arith, paths_stay_inside graph.nodes [] 0 is refl)

pub run-requires : goal.run-requires
run-requires g c =
    let graph = c.args.graph.now in
    rw (c.requires.reached, c.requires.bytes, c.in_ok-list.ensures.one)
    (record { work = begun_work (length graph.nodes) (some_node graph c.keeps_graph.ensures.graph) graph refl })

pub returns-clause-sets : goal.returns-clause-sets
returns-clause-sets g c = on_ok_weaker c.run.result (done_sets c.args.graph.now c.run.new.reached c.run.new.sets) c.run.ensures.done

pub returns-clause-turns : goal.returns-clause-turns
returns-clause-turns g c =
    let n = length c.args.graph.now.nodes in
    let first : state (set c.args.reached.now 0 true) (set c.args.bytes.now 0 0) c.in_ok-list.list ≡ first_state n =
    rw (c.requires.reached, c.requires.bytes, c.in_ok-list.ensures.one) refl in
    omega (arith, c.run.ensures.turns, ap turns_left first, begun_left n (some_node c.args.graph.now c.keeps_graph.ensures.graph))
