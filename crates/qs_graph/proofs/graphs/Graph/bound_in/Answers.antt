use Rattle.std.proofs.Common.{◌≡◌, ◌++◌, List, length, take, drop, sym, ap, ◌∙◌, subst, arith}
use Rattle.qs_graph.proofs.Common.{binding_of, length-map, take_at}
use Rattle.qs_graph.specs.audit.Bound.{bound_nodes, bound_place}
use Rattle.qs_graph.specs.audit.Nodes.{GraphNode}
use Rattle.qs_graph.specs.WellFormed.{IsGraph}
use Rattle.qs_graph.proofs.Bindings.{bound_is_graph, small_binding}
use Rattle.qs_graph.proofs.graphs.Graph.bound_in.Goals as goal

pub invariant_of-result : goal.invariant_of-result
invariant_of-result c =
    let binding = binding_of c.args.program.now c.args.client in
    let old : List GraphNode = c.self.inside.places.items in
    let new : List GraphNode = c.bind_places.new.places in
    let is : new ≡ bound_nodes binding old = c.bind_places.ensures.value ∙ ap (bound_nodes binding) c.deref_mut.ensures.value in
    let long : length new ≡ length old = ap length is ∙ length-map old (bound_place binding) in
    let whole : take c.self.inside.places.len (new ++ drop (length new) old) ≡ new =
    take_at new (drop (length new) old) c.self.inside.places.len (omega (arith, long, ap length c.deref_mut.ensures.value, c.deref_mut.ensures.len)) in
    rw whole (subst IsGraph (sym is)
    (bound_is_graph binding (small_binding c.args.program.now c.args.client c.keeps_sound.ensures.sound c.requires.client) old c.self.invariant))
