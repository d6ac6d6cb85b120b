-- One step of coalescing treats one node: its synchronisation is removed where its handler is held, and every other
-- node stays as it is. The loop of `coalesce` stands on it. Its invariant, `IsDone`, says that the nodes before the
-- current one are done and the others unchanged, so that at the end the whole graph is coalesced.
use Rattle.std.proofs.Common.{◌≡◌, ℕ, ◌+◌, ◌<◌, ◌≤◌, inl, inr, List, length, set, refl, sym, ap, ◌∙◌, arith, subst, below_more, length-set, get_or-set_same, get_or-set_other}
use Rattle.qs_graph.specs.declared.node.Node.{Node}
use Rattle.qs_graph.specs.declared.node.Node.TheVariants.{Sync}
use Rattle.qs_graph.specs.audit.Nodes.{ControlGraph, GraphNode, place_at, exit, made_local}
use Rattle.qs_syncset.specs.audit.held.Held.{IsHeld}
use Rattle.qs_syncset.specs.audit.Coalesced.{IsRemovedIfHeld}

-- what becomes of a node's place
abbrev pub IsRemovedAt : ControlGraph → ℕ → GraphNode → Type 0
IsRemovedAt g n new = IsRemovedIfHeld (IsHeld g n) (place_at g.nodes n).node (place_at g.nodes n) new

-- the places before n are done, and the others as they were
pub record IsDone (g : ControlGraph) (now : List GraphNode) (n : ℕ) : Type 0 where
  pub count : length now ≡ length g.nodes
  pub done : (k : ℕ) → k < n → IsRemovedAt g k (place_at now k)
  pub rest : (k : ℕ) → n ≤ k → place_at now k ≡ place_at g.nodes k

pub removed : (held : ℕ → Type 0) (h : ℕ) (old : GraphNode) → old.node ≡ Sync h → held h → IsRemovedIfHeld held old.node old (made_local old)
removed held h old e is = rw e (inl (is, refl))

pub not_held : (held : ℕ → Type 0) (h : ℕ) (old : GraphNode) → old.node ≡ Sync h → (held h → ⊥) → IsRemovedIfHeld held old.node old old
not_held held h old e other = rw e (inr (other, refl))

no_sync_by : (held : ℕ → Type 0) (v : Node) (old : GraphNode) → ((h : ℕ) → v ≡ Sync h → ⊥) → IsRemovedIfHeld held v old old
no_sync_by held (Sync h) old other = absurd (other h refl)
no_sync_by held _ old other = refl

pub no_sync : (held : ℕ → Type 0) (old : GraphNode) → ((h : ℕ) → old.node ≡ Sync h → ⊥) → IsRemovedIfHeld held old.node old old
no_sync held old other = no_sync_by held old.node old other

-- the place of n stays
pub done_kept : (g : ControlGraph) (now : List GraphNode) (n : ℕ) → IsDone g now n → IsRemovedAt g n (place_at g.nodes n) → IsDone g now (n + 1)
done_kept g now n d stays = record {
  count = d.count;
  done = below_more (λ k. IsRemovedAt g k (place_at now k)) _ d.done
      (subst (IsRemovedAt g n) (sym (d.rest n (omega arith))) stays);
  rest = λ k l. d.rest k (omega arith);
}

-- the place of n is removed
pub done_set : (g : ControlGraph) (now : List GraphNode) (n : ℕ) → n < length now → IsDone g now n → IsRemovedAt g n (made_local (place_at g.nodes n))
    → IsDone g (set now n (made_local (place_at now n))) (n + 1)
done_set g now n inside d goes =
    let new = made_local (place_at now n) in
    let same : place_at now n ≡ place_at g.nodes n = d.rest n (omega arith) in
    let here : place_at (set now n new) n ≡ new = get_or-set_same now n new exit inside in
    record {
      count = length-set now n new ∙ d.count;
      done = below_more (λ k. IsRemovedAt g k (place_at (set now n new) k)) _
          (λ k l. subst (IsRemovedAt g k) (sym (get_or-set_other now n k new exit (λ e. omega arith))) (d.done k l))
          (subst (IsRemovedAt g n) (sym (here ∙ ap made_local same)) goes);
      rest = λ k l. get_or-set_other now n k new exit (λ e. omega arith) ∙ d.rest k (omega arith);
    }
