-- An object is with its handler, or else where the client to which the handler turns has left it: in their lane or in
-- the client's hands. The code's `object` looks for an object in this way; beside it stands that the Syncs of a client
-- are few enough for `syncs_of` to add up. The proofs go by cases on the handler's state.
use Rattle.std.proofs.Common.{◌≡◌, ◌<◌, ◌≤◌, ℕ, ◌+◌, Bool, true, ◌&&◌, List, [], ◌∷◌, ◌++◌, length, Some, None, ap, sym, ◌∙◌, arith, add-one, zero-add, rules}
use Rattle.qs_played.proofs.Names.{range_with_len, HeldState}
use Rattle.qs_graph.specs.audit.Steps.{limit}
use Rattle.qs_core_laws.proofs.Names.{away_at, held_of, few_blocks, IsMind, mind_of, range_more, Core, all_of, found_by}
use Rattle.qs_handler.specs.audit.Handler.{Handler, act_of}
use Rattle.qs_core.specs.parts.CoreClients.{CoreClientState, IsCoreClient, whole_of}
use Rattle.qs_core.proofs.Names.{CoreHandlerState, IsCoreHandler, handler_with_act, turns_to, lane_at, client_part_at}
use Rattle.qs_core.proofs.parts.CoreMinds.{whole_mind}
use Rattle.qs_core.specs.shown.CoreShown.{TurnsTo, core_in, most_syncs, object_with}

and_true : (b : Bool) → (b && true) ≡ b
and_true v = search rules

and_and : (a b c : Bool) → (a && (b && c)) ≡ ((a && b) && c)
and_and v b c = search rules

all_push : (is : ℕ → Bool) (ns : List ℕ) (n : ℕ) → all_of is (ns ++ n ∷ []) ≡ (all_of is ns && is n)
all_push is [] n = and_true (is n)
all_push is (m ∷ ns) n = ap (λ b. is m && b) (all_push is ns n) ∙ and_and (is m) (all_of is ns) (is n)

-- all of one number more
pub all_more : (is : ℕ → Bool) (n : ℕ) → all_of is (range_with_len 0 (n + 1)) ≡ (all_of is (range_with_len 0 n) && is n)
all_more is n =
    ap (λ m. all_of is (range_with_len 0 m)) (add-one n)
    ∙ ap (all_of is) (range_more 0 n ∙ ap (λ m. range_with_len 0 n ++ m ∷ []) (zero-add n))
    ∙ all_push is (range_with_len 0 n) n

-- at most 64 blocks, and in each at most as many Syncs as a walk has nodes
pub few_syncs : (s : CoreClientState) → IsCoreClient s → IsMind (mind_of s.mind) → (whole_of s).syncs ≤ most_syncs
unfolding limit
few_syncs s kept ok = grind (arith, whole_mind, few_blocks)

module _ (s : Core) (h : ℕ) where
  -- the handler has its object
  found_here : (x : Handler) (y : HeldState) → held_of x ≡ Some y → found_by s h x ≡ Some y
  found_here v y e = search rules

  -- it gave the object away to the client that it serves
  found_away : (x : Handler) (c : ℕ) → held_of x ≡ None → turns_to (act_of x) ≡ Some c → found_by s h x ≡ away_at (s.up c h) (s.down c h) ((s.client c).held h)
  found_away v c e turned = grind arith

never_lost : (x : Handler) → held_of x ≡ None → turns_to (act_of x) ≡ None → ⊥
never_lost v e turned = search rules

-- where the object of a handler of number h is
module _ (cs : List CoreClientState) (h : ℕ) (s : CoreHandlerState) where
  pub object_here : (x : HeldState) → Some x ≡ held_of (handler_with_act s) → Some x ≡ object_with cs s h
  unfolding object_with
  object_here x e = sym (found_here (core_in cs) h (handler_with_act s) x (sym e))

  pub object_away : IsCoreHandler s → None ≡ held_of (handler_with_act s) → (c : ℕ) → Some c ≡ turns_to s.act
      → object_with cs s h ≡ away_at (lane_at (client_part_at cs c).lanes h).up (lane_at (client_part_at cs c).lanes h).down ((client_part_at cs c).mind.client.held h)
  unfolding object_with
  object_away kept e c turned = found_away (core_in cs) h (handler_with_act s) c (sym e) (ap turns_to (sym kept.act) ∙ sym turned)

  -- the client to which it turns
  pub turned_inside : IsCoreHandler s → TurnsTo cs s → (c : ℕ) → Some c ≡ turns_to s.act → c < length cs
  turned_inside kept turns c e = turns c (ap turns_to (sym kept.act) ∙ sym e)

  pub object_never_lost : IsCoreHandler s → None ≡ held_of (handler_with_act s) → None ≡ turns_to s.act → ⊥
  object_never_lost kept e turned = never_lost (handler_with_act s) (sym e) (ap turns_to (sym kept.act) ∙ sym turned)
