-- Each client of a checked program has a code in each mode: its graphs are there, and where synchronisations are
-- removed it can be decided at which of them the handler is held. So what is said of a machine's runs is said of some
-- run in each mode.
use Rattle.std.proofs.Common.{◌≡◌, inl, inr, ⊎_elim, ◌∙◌, ℕ, suc, arith, Bool, true, false, List, [], ◌∷◌, length, map, refl, sym, subst}
use Rattle.std.specs.List.{AllByRecursion, range_with_len}
use Rattle.std.proofs.lemmas.List.{length-map}
use Rattle.std.proofs.lemmas.List.FromFn.{get_or-map-range_with_len, length-range_with_len}
use Rattle.qs_program.specs.audit.Limits.{most_handlers}
use Rattle.qs_program.specs.audit.Loads.{load_of}
use Rattle.qs_program.specs.audit.Program.{ProgramShape, binding_of, block_at, blocks_of}
use Rattle.qs_program.specs.Sound.{IsSound}
use Rattle.qs_graph.specs.declared.node.Node.{Node}
use Rattle.qs_graph.specs.declared.node.Node.TheVariants.{Sync}
use Rattle.qs_graph.specs.audit.Bound.{bound_nodes}
use Rattle.qs_graph.specs.audit.Names.{graph_of}
use Rattle.qs_graph.specs.audit.Nodes.{ControlGraph, GraphNode, made_local}
use Rattle.qs_graph.specs.WellFormed.{IsGraph, IsGraphNode, IsInRange}
use Rattle.qs_graph.proofs.Ranges.{blocks_have_graphs}
use Rattle.qs_syncset.specs.audit.held.Held.{IsHeld}
use Rattle.qs_syncset.proofs.held.HeldOrNot.{held_or_not}
use Rattle.qs_syncset.specs.declared.mode.Mode.{Mode}
use Rattle.qs_syncset.specs.audit.Coalesced.{IsCoalesced, IsRemovedIfHeld}
use Rattle.qs_syncset.specs.audit.Codes.{BlockCode, ClientCode, IsBlockCode, IsCodeOf, IsGraphOf, no_code}
use Rattle.qs_syncset.specs.audit.Modes.{is_dynamic, is_static}
use Rattle.qs_syncset.proofs.CoalescedPlaces.{AreCoalesced, coalesced_one_by_one}

module _ (g : ControlGraph) (ok : IsGraph g.nodes) where
  one_place : (m : ℕ) (p : GraphNode) (v : Node) → IsInRange v → (q : GraphNode) × IsRemovedIfHeld (IsHeld g m) v p q
  one_place m p (Sync h) within =
      ⊎_elim
      (λ (held : IsHeld g m h). (made_local p, inl (held, refl)))
      (λ (not_held : IsHeld g m h → ⊥). (p, inr (not_held, refl)))
      (held_or_not g ok m h within)
  one_place m p _ within = (p, refl)

  each_place : (m k : ℕ) (ps : List GraphNode) → AllByRecursion (IsGraphNode k) ps
      → (new : List GraphNode) × AreCoalesced g m ps new
  each_place m k [] each = ([], tt)
  each_place m k (p ∷ ps) each =
      let q = one_place m p p.node each.0.in_range in
      let rest = each_place (suc m) k ps each.1 in (q.0 ∷ rest.0, (q.1, rest.1))

  coalesced : (new : List GraphNode) × IsCoalesced g new
  coalesced = let new = each_place 0 (length g.nodes) g.nodes ok.places in (new.0, coalesced_one_by_one g new.0 new.1)

  named_graph : (static : Bool) → (names : List GraphNode) × IsGraphOf static g names
  named_graph false = (g.nodes, refl)
  named_graph true = coalesced

module _ (p : ProgramShape) (sound : IsSound p) (mode : Mode) where
  block_code : (c k : ℕ)
      → (code : BlockCode) × IsBlockCode (is_static mode) (block_at p c k) (graph_of p c k) (binding_of p c) code
  block_code c k =
      let names = named_graph (graph_of p c k) (blocks_have_graphs p c k sound).own (is_static mode) in (
        record {
          reserved = (block_at p c k).reserved;
          graph = bound_nodes (binding_of p c) names.0;
          loads = map (load_of (block_at p c k).body) (range_with_len 0 most_handlers);
        },
        record {
          reserved = refl;
          graph = (names.0, names.1, refl);
          loads = λ h less.
              get_or-map-range_with_len (load_of (block_at p c k).body) 0 most_handlers h h 0 less (omega arith);
        },
      )

  pub client_code : ℕ → ClientCode
  client_code c =
      record { dynamic = is_dynamic mode; blocks = map (λ k. (block_code c k).0) (range_with_len 0 (blocks_of p c)) }

  many : (c : ℕ) → length (client_code c).blocks ≡ blocks_of p c
  unfolding client_code
  many c =
      length-map (range_with_len 0 (blocks_of p c)) (λ k. (block_code c k).0) ∙ length-range_with_len 0 (blocks_of p c)

  pub own_code : (c : ℕ) → IsCodeOf p mode c (client_code c)
  unfolding client_code
  own_code c = record {
    dynamic = refl;
    count = many c;
    blocks = λ k less.
        subst (IsBlockCode (is_static mode) (block_at p c k) (graph_of p c k) (binding_of p c))
        (sym (get_or-map-range_with_len (λ k. (block_code c k).0) 0 (blocks_of p c) k k no_code less (omega arith)))
        (block_code c k).1;
  }
