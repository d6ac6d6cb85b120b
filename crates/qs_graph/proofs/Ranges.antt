-- The nodes of a sound program's block form a graph: each edge leads to a node, each node has its number of edges, and
-- the numbers in it are in range. The function that builds the graph promises this, and the proofs on walks and held
-- sets begin from it. It goes by induction on the statements; the invariant is that the nodes to which they lead are in
-- range.
use Rattle.std.proofs.Common.{◌≡◌, ℕ, zero, suc, ◌+◌, ◌<◌, ◌≤◌, Bool, true, false, ◌||◌, ◌==◌, List, [], ◌∷◌, ◌++◌, length, map, get_or, Option, Some, None, refl, sym, ap, ◌∙◌, arith, subst, length-append}
use Rattle.qs_graph.proofs.Common.{again, AllByRecursion, assign, binding_in, block_at, BlockShape, bound_block, choose, client_at, ClientShape, command, declarations_in, declarations_of, Declared, end, IsSound, IsSoundBlock, IsSoundBody, IsSoundCall, IsSoundClient, IsStartSound, leave, most_handlers, most_objects, no_block, no_client, own_block, own_in, ProgramShape, query, StartShape, Statements}
use Rattle.qs_meaning.proofs.Each.{each_join, each_map}
use Rattle.qs_objects.proofs.Arities.{arity_small}
use Rattle.qs_program.specs.declared.code.Call as calls
use Rattle.qs_program.specs.audit.Sound.{is_in}
use Rattle.qs_graph.specs.declared.node.Node.{Node}
use Rattle.qs_graph.specs.declared.node.Node.TheVariants.{Local, Sync, Query, Call}
use Rattle.qs_graph.specs.declared.node.Action.TheVariants.{Assign}
use Rattle.qs_graph.specs.audit.Bound.{bound_nodes}
use Rattle.qs_graph.specs.audit.Nodes.{GraphNode, exit}
use Rattle.qs_graph.specs.audit.Graphs.{node_count, first_node, places_of, block_graph}
use Rattle.qs_graph.specs.WellFormed.{edge_count, IsCallInRange, IsGraph, IsInRange, IsGraphNode}
use Rattle.qs_graph.specs.SoundNodes.{AreSoundNodes, IsSoundNode}
use Rattle.qs_graph.specs.WalkLaws.{BlocksHaveGraphs}
use Rattle.qs_graph.proofs.Bindings.{graph_bound, unbound}
use Rattle.qs_graph.proofs.StatementPlaces.{length_places}

-- what holds of each element, and of the one past the last, holds at each place
pub all_at : {X : Type 0} (P Q : X → Type 0) (xs : List X) (i : ℕ) (d : X)
    → AllByRecursion P xs → ((x : X) → P x → Q x) → Q d → Q (get_or xs i d)
all_at P Q [] i d each h past = past
all_at P Q (x ∷ xs) zero d each h past = h x each.0
all_at P Q (x ∷ xs) (suc i) d each h past = all_at P Q xs i d each.1 h past

pub is_in-all : (P : ℕ → Type 0) (xs : List ℕ) (x : ℕ) → is_in xs x ≡ true → AllByRecursion P xs → P x
is_in-all P [] x member each = cc
is_in-all P (y ∷ ys) x member each = by_test (y == x) (λ e. e) member (λ later. is_in-all P ys x later each.1)
  where
    by_test : (b : Bool) → (b ≡ true → (y == x) ≡ true) → (b || is_in ys x) ≡ true → (is_in ys x ≡ true → P x) → P x
    by_test true same member later = let e : y ≡ x = grind (arith, same refl) in subst P e each.0
    by_test false same member later = later member

first_below : (at next n : ℕ) (b : Statements) → at + node_count b ≤ n → next < n → first_node at next b < n
first_below at next n end h w = w
first_below at next n _ h w = omega arith

-- a place among n nodes, sound by a block's list
pub record IsSoundGraphNode (objects : List Declared) (reserved : List ℕ) (n : ℕ) (p : GraphNode) : Type 0 where
  pub edges : AllByRecursion (λ m. m < n) p.edges
  pub count : length p.edges ≡ edge_count p.node
  pub sound : IsSoundNode objects reserved p.node

-- the places of a sound body, where its nodes, what comes next and what a `leave` leads to are among n nodes
module _ (objects : List Declared) (reserved : List ℕ) (n : ℕ) where
  abbrev Fine : List GraphNode → Type 0
  Fine ps = AllByRecursion (IsSoundGraphNode objects reserved n) ps

  places_fine : (b : Statements) (at next out : ℕ) → IsSoundBody objects reserved b → at + node_count b ≤ n → next < n → out < n
      → Fine (places_of at next out b)
  places_fine end at next out sound h w u = tt
  places_fine (command c rest) at next out sound h w u = (
    record { edges = (first_below (at + 1) next n rest (omega arith) w, tt); count = refl; sound = sound.0 },
    places_fine rest (at + 1) next out sound.1 (omega arith) w u,
  )
  places_fine (query x c rest) at next out sound h w u = (
    record { edges = (omega arith, tt); count = refl; sound = sound.1.reserves },
    (
      record { edges = (first_below (at + 2) next n rest (omega arith) w, tt); count = refl; sound = (sound.0, sound.1) },
      places_fine rest (at + 2) next out sound.2 (omega arith) w u,
    ),
  )
  places_fine (assign x e rest) at next out sound h w u = (
    record { edges = (first_below (at + 1) next n rest (omega arith) w, tt); count = refl; sound = (sound.0, sound.1) },
    places_fine rest (at + 1) next out sound.2 (omega arith) w u,
  )
  places_fine (choose t b first other rest) at next out sound h w u =
      let at_other = at + 1 + node_count first in
      let at_rest = at_other + node_count other in
      let after = first_node at_rest next rest in
      let later : after < n = first_below at_rest next n rest (omega arith) w in
      let two = first_below at_other after n other (omega arith) later in
      let ys = places_of at_other after out other in
      let zs = places_of at_rest next out rest in (
        record { edges = (first_below (at + 1) after n first (omega arith) later, (two, tt)); count = refl; sound = sound.0 },
        each_join (IsSoundGraphNode objects reserved n) (places_of (at + 1) after out first) (ys ++ zs)
            (places_fine first (at + 1) after out sound.1 (omega arith) later u)
            (each_join (IsSoundGraphNode objects reserved n) ys zs
            (places_fine other at_other after out sound.2 (omega arith) later u)
            (places_fine rest at_rest next out sound.3 (omega arith) w u)),
      )
  places_fine (again k body rest) at next out sound h w u =
      let at_rest = at + 2 + node_count body in
      let after = first_node at_rest next rest in
      let later : after < n = first_below at_rest next n rest (omega arith) w in
      let one = first_below (at + 2) (at + 1) n body (omega arith) (omega arith) in (
        record { edges = (omega arith, tt); count = refl; sound = tt },
        (
          record { edges = (one, (later, tt)); count = refl; sound = tt },
          each_join (IsSoundGraphNode objects reserved n) (places_of (at + 2) (at + 1) after body) (places_of at_rest next out rest)
              (places_fine body (at + 2) (at + 1) after sound.1 (omega arith) (omega arith) later)
              (places_fine rest at_rest next out sound.2 (omega arith) w u),
        ),
      )
  places_fine (leave rest) at next out sound h w u =
      (record { edges = (u, tt); count = refl; sound = tt }, places_fine rest (at + 1) next out sound (omega arith) w u)

-- the numbers of sound nodes are in range
module _ (objects : List Declared) (few : length objects ≤ most_objects) (reserved : List ℕ)
    (known : AllByRecursion (λ h. h < length objects) reserved) where
  handler_ok : (h : ℕ) → is_in reserved h ≡ true → h < most_handlers
  handler_ok h member =
      let below : h < length objects = is_in-all (λ o. o < length objects) reserved h member known in
      omega arith

  call_ok : (asks : Bool) (c : calls.Call) → IsSoundCall objects reserved asks c → IsCallInRange c
  call_ok asks c sound = (handler_ok c.object sound.reserves, omega (arith, arity_small c.op, sound.arity))

  node_ok : (v : Node) → IsSoundNode objects reserved v → IsInRange v
  node_ok (Local (Assign x e)) sound = sound.0
  node_ok (Sync h) sound = handler_ok h sound
  node_ok (Query x c) sound = (sound.0, call_ok true c sound.1)
  node_ok (Call c) sound = call_ok false c sound
  node_ok _ sound = tt

pub length_graph : (b : Statements) → length (block_graph b) ≡ 2 + node_count b
length_graph b =
    let last = 1 + node_count b in
    omega (arith, length-append (places_of 1 last last b) (exit ∷ []), length_places 1 last last b)

-- a block's list names objects of the program, and its statements are sound
pub record IsSoundText (objects : List Declared) (b : BlockShape) : Type 0 where
  pub known : AllByRecursion (λ h. h < length objects) b.reserved
  pub body : IsSoundBody objects b.reserved b.body

block_fine : (objects : List Declared) (b : BlockShape) → IsSoundText objects b
    → AllByRecursion (IsSoundGraphNode objects b.reserved (length (block_graph b.body))) (block_graph b.body)
block_fine objects b sound =
    let n = length (block_graph b.body) in
    let last = 1 + node_count b.body in
    let long : n ≡ 2 + node_count b.body = length_graph b.body in
    let below : last < n = omega arith in (
      record { edges = (first_below 1 last n b.body (omega arith) below, tt); count = refl; sound = tt },
      each_join (IsSoundGraphNode objects b.reserved n) (places_of 1 last last b.body) (exit ∷ [])
          (places_fine objects b.reserved n b.body 1 last last sound.body (omega arith) below below)
          (record { edges = tt; count = refl; sound = tt }, tt),
    )

sound_text : (p : ProgramShape) (c k : ℕ) → IsSound p → IsSoundText p.objects (block_at p c k)
sound_text p c k sound =
    all_at (IsSoundClient p.objects) (λ (d : ClientShape). IsSoundText p.objects (get_or d.blocks k no_block))
    p.clients c no_client sound.each
    (λ d w. all_at (IsSoundBlock p.objects) (IsSoundText p.objects) d.blocks k no_block w.each
    (λ b v. record { known = v.reserved; body = v.body }) (record { known = tt; body = tt }))
    (record { known = tt; body = tt })

-- ---- the own text of a client's block

-- sound by what its names were declared as, and once each name stands for its object it is the block
pub record IsSoundOwn (objects : List Declared) (blocks : List BlockShape) (start : Option StartShape) (k : ℕ) : Type 0 where
  pub few : length (declarations_in objects start) ≤ most_objects
  pub text : IsSoundText (declarations_in objects start) (own_in start k (get_or blocks k no_block))
  pub bound : block_graph (get_or blocks k no_block).body ≡ bound_nodes (binding_in start) (block_graph (own_in start k (get_or blocks k no_block)).body)

bound_at : (binding : List ℕ) (bs : List BlockShape) (k : ℕ) → get_or (map (bound_block binding) bs) k no_block ≡ bound_block binding (get_or bs k no_block)
bound_at binding (b ∷ bs) (suc k) = bound_at binding bs k
bound_at binding _ _ = refl

module _ (objects : List Declared) (few : length objects ≤ most_objects) (blocks : List BlockShape) (k : ℕ)
    (text : IsSoundText objects (get_or blocks k no_block)) where
  own_by : (start : Option StartShape) → IsStartSound objects blocks start → IsSoundOwn objects blocks start k
  own_by None sound = record { few = few; text = text; bound = sym (unbound (block_graph (get_or blocks k no_block).body)) }
  own_by (Some s) sound =
      let same : get_or blocks k no_block ≡ bound_block s.binding (get_or s.blocks k no_block) =
      ap (λ bs. get_or bs k no_block) sound.bound ∙ bound_at s.binding s.blocks k in
      record {
        few = sound.few;
        text = all_at (IsSoundBlock s.formals) (IsSoundText s.formals) s.blocks k no_block sound.texts
            (λ b v. record { known = v.reserved; body = v.body }) (record { known = tt; body = tt });
        bound = ap (λ (b : BlockShape). block_graph b.body) same ∙ graph_bound s.binding (get_or s.blocks k no_block).body;
      }

pub sound_own : (p : ProgramShape) (c k : ℕ) → IsSound p → IsSoundOwn p.objects (client_at p c).blocks (client_at p c).start k
sound_own p c k sound =
    all_at (IsSoundClient p.objects) (λ (d : ClientShape). IsSoundOwn p.objects d.blocks d.start k)
    p.clients c no_client sound.each
    (λ d w. own_by p.objects sound.objects d.blocks k
    (all_at (IsSoundBlock p.objects) (IsSoundText p.objects) d.blocks k no_block w.each
    (λ b v. record { known = v.reserved; body = v.body }) (record { known = tt; body = tt })) d.start w.start)
    (record { few = sound.objects; text = record { known = tt; body = tt }; bound = sym (unbound (block_graph no_block.body)) })

-- ---- graphs of sound texts

module _ (objects : List Declared) (few : length objects ≤ most_objects) (b : BlockShape) (text : IsSoundText objects b) where
  abbrev text_graph : List GraphNode
  text_graph = block_graph b.body

  pub text_has_graph : IsGraph text_graph
  text_has_graph = record {
    entry = refl;
    places = each_map {P = IsSoundGraphNode objects b.reserved (length text_graph)} {Q = IsGraphNode (length text_graph)}
        (λ q w. record { edges = w.edges; count = w.count; in_range = node_ok objects few b.reserved text.known q.node w.sound })
        text_graph (block_fine objects b text);
  }

  pub text_is_sound : AreSoundNodes objects b.reserved text_graph
  text_is_sound = each_map {P = IsSoundGraphNode objects b.reserved (length text_graph)} {Q = λ (q : GraphNode). IsSoundNode objects b.reserved q.node}
      (λ q w. w.sound) text_graph (block_fine objects b text)

pub blocks_have_graphs : BlocksHaveGraphs
blocks_have_graphs p c k sound =
    let text = sound_text p c k sound in
    let own = sound_own p c k sound in
    record {
      graph = text_has_graph p.objects sound.objects (block_at p c k) text;
      sound = text_is_sound p.objects sound.objects (block_at p c k) text;
      own = text_has_graph (declarations_of p c) own.few (own_block p c k) own.text;
      own_sound = text_is_sound (declarations_of p c) own.few (own_block p c k) own.text;
      bound = own.bound;
    }
