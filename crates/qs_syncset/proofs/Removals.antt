-- Coalescing by names, seen on objects: once each name of a coalesced graph is replaced by its object, each place is as
-- it was or has lost a synchronisation with an object that is held there. So a client may rely on it that it holds the
-- object, even where two names stand for it. The proofs on walks through a client's code stand on it. It needs that a
-- call of an object's name may be a call of each other name of the object, so that a call that sends an object home
-- takes all its names out of the held sets.
use Rattle.std.proofs.Common.{◌≡◌, ◌⊎◌, inl, inr, ℕ, ◌<◌, Bool, true, false, ◌==◌, List, [], ◌∷◌, length, refl, sym, ap, ◌∙◌, subst, arith}
use Rattle.std.specs.List.{AllByRecursion}
use Rattle.std.proofs.lemmas.List.{length-map}
use Rattle.qs_program.specs.audit.Binding.{bound}
use Rattle.qs_program.specs.declared.code.Call as calls
use Rattle.qs_graph.specs.declared.node.Node.{Node}
use Rattle.qs_graph.specs.declared.node.Node.TheVariants.{Entry, Local, Branch, Sync, Query, Call, Exit}
use Rattle.qs_graph.specs.declared.node.Action.TheVariants.{Nothing}
use Rattle.qs_graph.specs.audit.Bound.{bound_node, bound_nodes, bound_place}
use Rattle.qs_graph.specs.audit.Names.{may_be_one}
use Rattle.qs_graph.specs.audit.Nodes.{ControlGraph, GraphNode, made_local, place_at}
use Rattle.qs_graph.specs.Nodes.{over_objects}
use Rattle.qs_graph.proofs.Bindings.{path_back, place_bound}
use Rattle.qs_syncset.specs.audit.Coalesced.{IsCoalesced, IsRemovedIfHeld}
use Rattle.qs_syncset.specs.audit.held.Held.{IsCallOf, IsHeld, IsSynced}
use Rattle.qs_syncset.specs.SyncCounts.{Decides}

-- a synchronisation that is removed where its object is held
pub record IsRemovedHere (g new : List GraphNode) (n : ℕ) : Type 0 where
  pub handler : ℕ
  pub sync : (place_at g n).node ≡ Sync handler
  pub held : IsHeld (over_objects g) n handler
  pub place : place_at new n ≡ made_local (place_at g n)

-- each place is as it was, or its synchronisation is removed where its object is held
pub record IsSoundRemoval (g new : List GraphNode) : Type 0 where
  pub count : length new ≡ length g
  pub places : (n : ℕ) → n < length g → (place_at new n ≡ place_at g n) ⊎ IsRemovedHere g new n

-- a test tells which synchronisations are removed
pub record IsDecidedBy (g new : List GraphNode) (held : ℕ → Bool) : Type 0 where
  pub left : (n j : ℕ) → n < length g → (place_at g n).node ≡ Sync j → place_at new n ≡ place_at g n → held n ≡ false
  pub gone : (n : ℕ) → n < length g → IsRemovedHere g new n → held n ≡ true

pub none_removed : (g : List GraphNode) → IsSoundRemoval g g
none_removed g = record { count = refl; places = λ n inside. inl refl }

-- where two names stand for one object, a call of the one may be a call of the other
abbrev pub AreNamesKnown : List ℕ → ControlGraph → Type 0
AreNamesKnown binding g =
    (m n : ℕ) (c : calls.Call) (h : ℕ) → (place_at g.nodes m).node ≡ Call c → (place_at g.nodes n).node ≡ Sync h
    → bound binding c.object ≡ bound binding h → may_be_one g c.object h ≡ true

module _ (binding : List ℕ) (g : ControlGraph) (known : AreNamesKnown binding g) where
  abbrev objects : List GraphNode
  objects = bound_nodes binding g.nodes

  node_bound : (n : ℕ) (v : Node) → (place_at g.nodes n).node ≡ v → (place_at objects n).node ≡ bound_node binding v
  node_bound n v e = ap (λ (p : GraphNode). p.node) (place_bound binding g.nodes n) ∙ ap (bound_node binding) e

  same_if : (x y : ℕ) → (x == y) ≡ true → x ≡ y
  same_if x y e = grind (arith, e)

  -- a call of an object is a call that may be one of each of its names
  call_back : (m sync h : ℕ) → (place_at g.nodes sync).node ≡ Sync h → (v : Node) → (place_at g.nodes m).node ≡ v
      → IsCallOf (over_objects objects) (bound binding h) (bound_node binding v) → IsCallOf g h v
  call_back m sync h s (Call q) e c = known m sync q h e s (same_if (bound binding q.object) (bound binding h) c)
  call_back m sync h s _ e c = c

  none_since : (sync h : ℕ) → (place_at g.nodes sync).node ≡ Sync h → (since : List ℕ)
      → AllByRecursion (λ m. IsCallOf g h (place_at g.nodes m).node → ⊥) since
      → AllByRecursion (λ m. IsCallOf (over_objects objects) (bound binding h) (place_at objects m).node → ⊥) since
  none_since sync h s [] none = tt
  none_since sync h s (m ∷ since) none = (
    λ c. none.0 (call_back m sync h s (place_at g.nodes m).node refl
        (subst (IsCallOf (over_objects objects) (bound binding h)) (node_bound m (place_at g.nodes m).node refl) c)),
    none_since sync h s since none.1,
  )

  -- where a name is held, so is its object
  pub held_bound : (n h : ℕ) → IsHeld g n h → IsHeld (over_objects objects) n (bound binding h)
  held_bound n h held before path =
      let s : IsSynced g h before = held before (path_back binding g.nodes before n path) in
      record {
        since = s.since;
        sync = s.sync;
        earlier = s.earlier;
        parts = s.parts;
        is_sync = node_bound s.sync (Sync h) s.is_sync;
        no_call = none_since s.sync h s.is_sync s.since s.no_call;
      }

  module _ (new : List GraphNode) (c : IsCoalesced g new) where
    abbrev left_objects : List GraphNode
    left_objects = bound_nodes binding new

    kept_bound : (n : ℕ) → place_at new n ≡ place_at g.nodes n → place_at left_objects n ≡ place_at objects n
    kept_bound n e = place_bound binding new n ∙ (ap (bound_place binding) e ∙ sym (place_bound binding g.nodes n))

    gone_bound : (n : ℕ) → place_at new n ≡ made_local (place_at g.nodes n) → place_at left_objects n ≡ made_local (place_at objects n)
    gone_bound n e =
        place_bound binding new n ∙ (ap (bound_place binding) e ∙ ap made_local (sym (place_bound binding g.nodes n)))

    place_by : (n : ℕ) (v : Node) → (place_at g.nodes n).node ≡ v
        → IsRemovedIfHeld (IsHeld g n) v (place_at g.nodes n) (place_at new n)
        → (place_at left_objects n ≡ place_at objects n) ⊎ IsRemovedHere objects left_objects n
    place_by n (Sync h) e (inl w) = inr (record {
      handler = bound binding h;
      sync = node_bound n (Sync h) e;
      held = held_bound n h w.0;
      place = gone_bound n w.1;
    })
    place_by n (Sync h) e (inr w) = inl (kept_bound n w.1)
    place_by n _ e r = inl (kept_bound n r)

    counted : length objects ≡ length g.nodes
    counted = length-map g.nodes (bound_place binding)

    pub removal_bound : IsSoundRemoval objects left_objects
    removal_bound = record {
      count = length-map new (bound_place binding) ∙ (c.count ∙ sym counted);
      places = λ n inside.
          place_by n (place_at g.nodes n).node refl (c.places n (omega (arith, inside, counted)));
    }

    -- ---- a test of where names are held tells which synchronisations are removed

    module _ (held : ℕ → Bool) (decides : Decides g held) where
      to_false : (b : Bool) → (b ≡ true → ⊥) → b ≡ false
      to_false true never = absurd (never refl)
      to_false false never = refl

      -- a node whose object's node is a synchronisation is one itself
      left_by : (n j : ℕ) (v : Node) → (place_at g.nodes n).node ≡ v → bound_node binding v ≡ Sync j
          → IsRemovedIfHeld (IsHeld g n) v (place_at g.nodes n) (place_at new n) → place_at left_objects n ≡ place_at objects n → held n ≡ false
      left_by n j (Sync h) e is (inl w) same =
          let now : (place_at left_objects n).node ≡ Local Nothing = ap (λ (p : GraphNode). p.node) (gone_bound n w.1) in
          let never : Local Nothing ≡ Sync (bound binding h) = sym now ∙ (ap (λ (p : GraphNode). p.node) same ∙ node_bound n (Sync h) e) in
          absurd (cc)
      left_by n j (Sync h) e is (inr w) same = to_false (held n) (λ t. w.0 ((decides n h e).0 t))
      left_by n j _ e is r same = absurd (cc)

      gone_by : (n : ℕ) (v : Node) → (place_at g.nodes n).node ≡ v → IsRemovedHere objects left_objects n
          → IsRemovedIfHeld (IsHeld g n) v (place_at g.nodes n) (place_at new n) → held n ≡ true
      gone_by n Entry e r w = let never : Sync r.handler ≡ Entry = sym r.sync ∙ node_bound n Entry e in absurd (cc)
      gone_by n (Local a) e r w = let never : Sync r.handler ≡ Local a = sym r.sync ∙ node_bound n (Local a) e in absurd (cc)
      gone_by n (Branch b) e r w = let never : Sync r.handler ≡ Branch b = sym r.sync ∙ node_bound n (Branch b) e in absurd (cc)
      gone_by n (Sync h) e r (inl w) = (decides n h e).1 w.0
      gone_by n (Sync h) e r (inr w) =
          let now : (place_at left_objects n).node ≡ Local Nothing = ap (λ (p : GraphNode). p.node) r.place in
          let then : (place_at left_objects n).node ≡ Sync (bound binding h) =
          ap (λ (p : GraphNode). p.node) (kept_bound n w.1) ∙ node_bound n (Sync h) e in
          let never : Local Nothing ≡ Sync (bound binding h) = sym now ∙ then in absurd (cc)
      gone_by n (Query x q) e r w = let never : Sync r.handler ≡ bound_node binding (Query x q) = sym r.sync ∙ node_bound n (Query x q) e in absurd (cc)
      gone_by n (Call q) e r w = let never : Sync r.handler ≡ bound_node binding (Call q) = sym r.sync ∙ node_bound n (Call q) e in absurd (cc)
      gone_by n Exit e r w = let never : Sync r.handler ≡ Exit = sym r.sync ∙ node_bound n Exit e in absurd (cc)

      pub decided_bound : IsDecidedBy objects left_objects held
      decided_bound = record {
        left = λ n j inside e same.
            left_by n j (place_at g.nodes n).node refl (sym (node_bound n (place_at g.nodes n).node refl) ∙ e)
            (c.places n (omega (arith, inside, counted))) same;
        gone = λ n inside r.
            gone_by n (place_at g.nodes n).node refl r (c.places n (omega (arith, inside, counted)));
      }
