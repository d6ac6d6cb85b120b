-- A graph over names, with each name replaced by its object: it has the same paths, and it is the graph of the text in
-- which the names were replaced. The proofs on coalescing by names stand on the first, and those on a client's code on
-- the second. Both go by induction: on the path, and on the statements.
use Rattle.std.proofs.Common.{◌≡◌, ℕ, zero, suc, ◌+◌, ◌<◌, ◌≤◌, List, [], ◌∷◌, ◌++◌, length, slice_index_or, Option, Some, None, refl, sym, ap, ◌∙◌, subst, arith}
use Rattle.qs_graph.proofs.Common.{again, AllByRecursion, AllByRecursion-get_or, assign, binding_in, binding_of, BlockShape, bound_call, bound_statements, choose, client_at, command, Declared, end, ext_get_or, IsSound, IsSoundClient, IsStartSound, leave, length-map, map-append, most_handlers, most_objects, no_client, ProgramShape, query, StartShape, Statements}
use Rattle.qs_meaning.proofs.Each.{each_map}
use Rattle.qs_program.specs.declared.code.Call as calls
use Rattle.qs_graph.specs.audit.Bound.{bound_node, bound_place, bound_nodes}
use Rattle.qs_graph.specs.declared.node.Node.{Node}
use Rattle.qs_graph.specs.declared.node.Node.TheVariants.{Entry, Sync, Query, Call}
use Rattle.qs_graph.specs.audit.Graphs.{block_graph, first_node, node_count, places_of}
use Rattle.qs_graph.specs.audit.Nodes.{GraphNode, exit, place_at}
use Rattle.qs_graph.specs.audit.Paths.{HasEdge, IsAmong, IsPath}
use Rattle.qs_graph.specs.WellFormed.{IsCallInRange, IsGraph, IsGraphNode, IsInRange, edge_count}

pub place_bound : (binding : List ℕ) (g : List GraphNode) (n : ℕ) → place_at (bound_nodes binding g) n ≡ bound_place binding (place_at g n)
place_bound binding (p ∷ ps) (suc n) = place_bound binding ps n
place_bound binding _ _ = refl

-- ---- the same paths

edge_back : (binding : List ℕ) (g : List GraphNode) (m n : ℕ) → HasEdge (bound_nodes binding g) m n → HasEdge g m n
edge_back binding g m n edge = subst (λ (p : GraphNode). IsAmong n p.edges) (place_bound binding g m) edge

pub path_back : (binding : List ℕ) (g : List GraphNode) (before : List ℕ) (n : ℕ) → IsPath (bound_nodes binding g) before n → IsPath g before n
path_back binding g [] n path = path
path_back binding g (m ∷ before) n path = (edge_back binding g m n path.0, path_back binding g before m path.1)

-- ---- with no binding all stays

node_unbound : (v : Node) → bound_node [] v ≡ v
node_unbound Entry = refl
node_unbound _ = refl

pub unbound : (g : List GraphNode) → bound_nodes [] g ≡ g
unbound [] = refl
unbound (p ∷ ps) = rw (unbound ps, node_unbound p.node) refl

-- ---- the graph of the bound text

module _ (binding : List ℕ) where
  count_bound : (b : Statements) → node_count (bound_statements binding b) ≡ node_count b
  count_bound end = refl
  count_bound (command c rest) = ap (λ n. 1 + n) (count_bound rest)
  count_bound (query x c rest) = ap (λ n. 2 + n) (count_bound rest)
  count_bound (assign x e rest) = ap (λ n. 1 + n) (count_bound rest)
  count_bound (choose t has_else first other rest) = rw (count_bound first, count_bound other, count_bound rest) refl
  count_bound (again n body rest) = rw (count_bound body, count_bound rest) refl
  count_bound (leave rest) = ap (λ n. 1 + n) (count_bound rest)

  first_bound : (at next : ℕ) (b : Statements) → first_node at next (bound_statements binding b) ≡ first_node at next b
  first_bound at next end = refl
  first_bound at next _ = refl

  places_bound : (at next out : ℕ) (b : Statements) → places_of at next out (bound_statements binding b) ≡ bound_nodes binding (places_of at next out b)
  places_bound at next out end = refl
  places_bound at next out (assign x e rest) = rw (first_bound (at + 1) next rest, places_bound (at + 1) next out rest) refl
  places_bound at next out (command c rest) = rw (first_bound (at + 1) next rest, places_bound (at + 1) next out rest) refl
  places_bound at next out (query x c rest) = rw (first_bound (at + 2) next rest, places_bound (at + 2) next out rest) refl
  places_bound at next out (choose t has_else first other rest) =
      let at_other = at + 1 + node_count first in
      let at_rest = at_other + node_count other in
      let after = first_node at_rest next rest in
      let two = places_of at_other after out other in
      let three = places_of at_rest next out rest in
      rw (
        count_bound first,
        count_bound other,
        first_bound at_rest next rest,
        first_bound (at + 1) after first,
        first_bound at_other after other,
        places_bound (at + 1) after out first,
        places_bound at_other after out other,
        places_bound at_rest next out rest,
        map-append (bound_place binding) (places_of (at + 1) after out first) (two ++ three),
        map-append (bound_place binding) two three,
      ) refl
  places_bound at next out (again n body rest) =
      let at_rest = at + 2 + node_count body in
      let after = first_node at_rest next rest in
      rw (
        count_bound body,
        first_bound at_rest next rest,
        first_bound (at + 2) (at + 1) body,
        places_bound (at + 2) (at + 1) after body,
        places_bound at_rest next out rest,
        map-append (bound_place binding) (places_of (at + 2) (at + 1) after body) (places_of at_rest next out rest),
      ) refl
  places_bound at next out (leave rest) = rw (places_bound (at + 1) next out rest) refl

  pub graph_bound : (b : Statements) → block_graph (bound_statements binding b) ≡ bound_nodes binding (block_graph b)
  graph_bound b =
      let last = 1 + node_count b in
      rw (count_bound b, first_bound 1 last b, places_bound 1 last last b, map-append (bound_place binding) (places_of 1 last last b) (exit ∷ [])) refl

-- ---- places bound one after another

-- the places before n are bound, and the others as they were
pub record AreBoundBelow (binding : List ℕ) (old now : List GraphNode) (n : ℕ) : Type 0 where
  pub count : length now ≡ length old
  pub done : (k : ℕ) → k < n → place_at now k ≡ bound_place binding (place_at old k)
  pub rest : (k : ℕ) → n ≤ k → place_at now k ≡ place_at old k

pub bound_all : (binding : List ℕ) (old now : List GraphNode) (n : ℕ) → length now ≤ n → AreBoundBelow binding old now n → now ≡ bound_nodes binding old
bound_all binding old now n past b =
    ext_get_or exit now (bound_nodes binding old) (b.count ∙ sym (length-map old (bound_place binding)))
    (λ k inside. b.done k (omega (arith, inside, past)) ∙ sym (place_bound binding old k))

-- ---- it is a graph still

bound_edges : (binding : List ℕ) (v : Node) → edge_count (bound_node binding v) ≡ edge_count v
bound_edges binding Entry = refl
bound_edges binding _ = refl

module _ (binding : List ℕ) (small : AllByRecursion (λ h. h < most_handlers) binding) where
  bound_small : (bs : List ℕ) → AllByRecursion (λ h. h < most_handlers) bs → (i name : ℕ) → name < most_handlers → slice_index_or bs i name < most_handlers
  bound_small [] each i name below = below
  bound_small (b ∷ bs) each zero name below = each.0
  bound_small (b ∷ bs) each (suc i) name below = bound_small bs each.1 i name below

  call_range : (c : calls.Call) → IsCallInRange c → IsCallInRange (bound_call binding c)
  call_range c range = (bound_small binding small c.object c.object range.0, range.1)

  bound_range : (v : Node) → IsInRange v → IsInRange (bound_node binding v)
  bound_range (Sync h) range = bound_small binding small h h range
  bound_range (Query x c) range = (range.0, call_range c range.1)
  bound_range (Call c) range = call_range c range
  bound_range _ range = range

  bound_each : (n m : ℕ) → m ≡ n → (ps : List GraphNode) → AllByRecursion (IsGraphNode n) ps → AllByRecursion (IsGraphNode m) (bound_nodes binding ps)
  bound_each n m same [] each = tt
  bound_each n m same (p ∷ ps) each = (
    record {
      edges = subst (λ k. AllByRecursion (λ e. e < k) p.edges) (sym same) each.0.edges;
      count = each.0.count ∙ sym (bound_edges binding p.node);
      in_range = bound_range p.node each.0.in_range;
    },
    bound_each n m same ps each.1,
  )

  pub bound_is_graph : (g : List GraphNode) → IsGraph g → IsGraph (bound_nodes binding g)
  bound_is_graph g is = record {
    entry = ap (λ (p : GraphNode). p.node) (place_bound binding g 0) ∙ ap (bound_node binding) is.entry;
    places = bound_each (length g) (length (bound_nodes binding g)) (length-map g (bound_place binding)) g is.places;
  }

-- the objects that a sound client's names stand for are among 8
small_start : (objects : List Declared) → length objects ≤ most_objects → (blocks : List BlockShape) (start : Option StartShape)
    → IsStartSound objects blocks start → AllByRecursion (λ h. h < most_handlers) (binding_in start)
small_start objects few blocks None sound = tt
small_start objects few blocks (Some s) sound = each_map {P = λ h. h < length objects} {Q = λ h. h < most_handlers} (λ h below. omega (arith, below, few)) s.binding sound.inside

pub small_binding : (p : ProgramShape) (c : ℕ) → IsSound p → c < length p.clients → AllByRecursion (λ h. h < most_handlers) (binding_of p c)
small_binding p c sound inside =
    let d : IsSoundClient p.objects (client_at p c) = AllByRecursion-get_or (IsSoundClient p.objects) p.clients c no_client sound.each inside in
    small_start p.objects sound.objects (client_at p c).blocks (client_at p c).start d.start
