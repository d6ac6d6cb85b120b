-- A client whose mind handed out its next act: the mind and the kept act are together the client of the definition.
use Rattle.std.proofs.Common.{◌≡◌, ℕ, ◌<◌, ◌∷◌, ◌++◌, List, [], true, nat_lt, Some, None, length, get_or, refl, sym, ap, subst, ◌∙◌, add-zero, rules}
use Rattle.qs_played.proofs.Names.{set, HeldState, Ticket, Request}
use Rattle.qs_core_laws.proofs.Names.{ClientCode, Batch, Parcel, Settlement, lane_room, MindState, mind_of, Act, get_or-any}
use Rattle.qs_client.proofs.MindRefinement.{extend_none}
use Rattle.qs_client.specs.audit.ClientModel.{ClientModel, act_due, mind_after_chunk, comes_to, count_syncs, finish, mind_after_object, hands_out, next_act, next_mind, settings_of, mind_after_begin, enters, fresh_mind, locals_at}
use Rattle.qs_client.specs.ClientModel.{Asks, with_act_again}
use Rattle.qs_client.proofs.rules.CarriedValues.{acts_lose_nothing}
use Rattle.qs_client.specs.declared.rules.act.Act.TheVariants as acts
use Rattle.qs_core.specs.parts.CoreClients.{CoreClientState, IsCoreClient, LaneSteps, lane_step_of_client, turns_to, whole_of}
use Rattle.qs_core.specs.parts.LaneStates.{LaneState, fresh_lane, lane_at, with_down, with_spare, with_up}

-- a mind that has come to its next act stays there
pub come_stays : (m : ClientModel) (r : Settlement) → finish (comes_to m r) ≡ comes_to m r
come_stays m r = search (rules, extend_none, add-zero)

-- with what the act carries it is as it was
pub whole_again : (m : ClientModel) (r : Settlement) → with_act_again (hands_out (comes_to m r) (act_due (comes_to m r))) (act_due (comes_to m r)) ≡ comes_to m r
whole_again m r = λ k. record (comes_to m r) { client = (acts_lose_nothing (settings_of m) (length m.code.blocks) r.client).whole k }

-- a part with the next act of a mind that has come to it
pub record IsFormedOf (n : ClientModel) (s : CoreClientState) : Type 0 where
  pub whole_is : whole_of s ≡ n
  pub formed : IsCoreClient s

module _ (m : ClientModel) (r : Settlement) (s : CoreClientState) (handed : mind_of s.mind ≡ hands_out (comes_to m r) (act_due (comes_to m r))) (act : s.act ≡ act_due (comes_to m r)) where
  whole_is : whole_of s ≡ comes_to m r
  unfolding whole_of
  whole_is = (λ k. with_act_again (handed k) (act k)) ∙ whole_again m r

  pub formed_of : IsFormedOf (comes_to m r) s
  formed_of = search (rules, whole_is)

-- where the mind that was asked last has come to its next act already
pub formed_after : (m : ClientModel) (r : Settlement) (old : MindState) (s : CoreClientState) → mind_of old ≡ comes_to m r → s.act ≡ next_act (mind_of old) → mind_of s.mind ≡ next_mind (mind_of old) → IsFormedOf (comes_to m r) s
formed_after m r old s come act handed =
    let stays : finish (mind_of old) ≡ comes_to m r = ap finish come ∙ come_stays m r in
    formed_of m r s (handed ∙ ap (λ (n : ClientModel). hands_out n (act_due n)) stays) (act ∙ ap act_due stays)

-- where something was left to be done for the last act
pub formed_done : (old : MindState) (s : CoreClientState) → s.act ≡ next_act (mind_of old) → mind_of s.mind ≡ next_mind (mind_of old) → IsFormedOf (finish (mind_of old)) s
formed_done old s act handed = formed_of (count_syncs (mind_of old)) _ s handed act

-- an act that carries nothing leaves the mind as it is
same_handed : (s : CoreClientState) → hands_out (whole_of s) acts.Reserve ≡ whole_of s
unfolding whole_of
same_handed s = refl

-- with nothing left to be done it asks for its act
asked_whole : (s : CoreClientState) → IsCoreClient s → (act : Act) → s.act ≡ act → Asks (whole_of s) act
unfolding whole_of
asked_whole s kept act is = (refl, sym kept.act ∙ is)

module _ (s : CoreClientState) (kept : IsCoreClient s) where
  abbrev pub own : ClientModel
  own = whole_of s

  -- an act that carries nothing, after which something has to come
  pub asks : (act : Act) → s.act ≡ act → hands_out own act ≡ own → Asks own act → Asks (mind_of s.mind) act
  asks act is same asked = subst (λ (n : ClientModel). Asks n act) (sym (kept.mind ∙ ap (hands_out own) is ∙ same)) asked

  pub mind_is : (act : Act) → s.act ≡ act → hands_out own act ≡ own → mind_of s.mind ≡ own
  mind_is act is same = kept.mind ∙ ap (hands_out own) is ∙ same

-- what a client did at its lane to handler h, by its part before and after it
module _ (s : CoreClientState) (kept : IsCoreClient s) (t : CoreClientState) (h : ℕ) where
  abbrev pub lane : LaneState
  lane = lane_at s.lanes h

  -- it sent a parcel
  pub sent_steps : (p : Parcel) → s.act ≡ acts.Send h p → nat_lt (length lane.down) lane_room ≡ true
      → t.act ≡ next_act (mind_of s.mind) → mind_of t.mind ≡ next_mind (mind_of s.mind) → t.lanes ≡ set s.lanes h (with_down lane (lane.down ++ p ∷ []))
      → LaneSteps s t
  sent_steps p is room act handed lanes_are =
      let sent : whole_of t ≡ finish (hands_out (whole_of s) (acts.Send h p)) = (formed_done s.mind t act handed).whole_is ∙ ap finish (kept.mind ∙ ap (hands_out (whole_of s)) is) in
      record {
        handler = h;
        turned = ap turns_to is;
        lane = with_down lane (lane.down ++ p ∷ []);
        steps = ap (λ (a : Act). lane_step_of_client (whole_of s) a lane) is ∙ rw room (λ k. Some (sym sent k, with_down lane (lane.down ++ p ∷ [])));
        lanes = lanes_are;
      }

  -- the object came
  pub got_steps : (x : HeldState) (m : MindState) → s.act ≡ acts.Await h → lane.up ≡ Some x → mind_of m ≡ mind_after_object (mind_of s.mind) x
      → t.act ≡ next_act (mind_of m) → mind_of t.mind ≡ next_mind (mind_of m) → t.lanes ≡ set s.lanes h (with_up lane None)
      → LaneSteps s t
  got_steps x m is there came act handed lanes_are =
      let own_is : mind_of s.mind ≡ whole_of s = mind_is s kept (acts.Await h) is (same_handed s) in
      let got_is : mind_of m ≡ mind_after_object (whole_of s) x = came ∙ ap (λ (n : ClientModel). mind_after_object n x) own_is in
      let after : whole_of t ≡ mind_after_object (whole_of s) x = (formed_after (whole_of s) _ m t got_is act handed).whole_is in
      record {
        handler = h;
        turned = ap turns_to is;
        lane = with_up lane None;
        steps = ap (λ (a : Act). lane_step_of_client (whole_of s) a lane) is ∙ rw there (λ k. Some (sym after k, with_up lane None));
        lanes = lanes_are;
      }

  -- an empty chunk came
  pub chunk_steps : (b : Batch Request) (bs : List (Batch Request)) (m : MindState) → s.act ≡ acts.NeedChunk h → lane.spare ≡ b ∷ bs → mind_of m ≡ mind_after_chunk (mind_of s.mind) h
      → t.act ≡ next_act (mind_of m) → mind_of t.mind ≡ next_mind (mind_of m) → t.lanes ≡ set s.lanes h (with_spare lane bs)
      → LaneSteps s t
  chunk_steps b bs m is there came act handed lanes_are =
      let own_is : mind_of s.mind ≡ whole_of s = mind_is s kept (acts.NeedChunk h) is (same_handed s) in
      let got_is : mind_of m ≡ mind_after_chunk (whole_of s) h = came ∙ ap (λ (n : ClientModel). mind_after_chunk n h) own_is in
      let after : whole_of t ≡ mind_after_chunk (whole_of s) h = (formed_after (whole_of s) _ m t got_is act handed).whole_is in
      record {
        handler = h;
        turned = ap turns_to is;
        lane = with_spare lane bs;
        steps = ap (λ (a : Act). lane_step_of_client (whole_of s) a lane) is ∙ rw there (λ k. Some (sym after k, with_spare lane bs));
        lanes = lanes_are;
      }

-- its next block was reserved
pub booked_formed : (s : CoreClientState) → IsCoreClient s → (t : CoreClientState) (u : Ticket) (m : MindState) → s.act ≡ acts.Reserve → mind_of m ≡ mind_after_begin (mind_of s.mind) u
    → t.act ≡ next_act (mind_of m) → mind_of t.mind ≡ next_mind (mind_of m) → IsFormedOf (mind_after_begin (whole_of s) u) t
booked_formed s kept t u m is came act handed =
    let own_is : mind_of s.mind ≡ whole_of s = mind_is s kept acts.Reserve is (same_handed s) in
    formed_after (enters (whole_of s) u (locals_at (whole_of s).client.stage)) _ m t (came ∙ ap (λ (n : ClientModel). mind_after_begin n u) own_is) act handed

-- an act that sends to one handler sends what it sends
send_same : (a : Act) (h g : ℕ) (p q : Parcel) → a ≡ acts.Send h p → a ≡ acts.Send g q → a ≡ acts.Send h q
send_same a h g p q one other = search rules

-- the same, as the code says it: `now` is the part, n the handler's number, and l its lane
module _ (s now : CoreClientState) (kept : IsCoreClient s) (same : s ≡ now) (h n : ℕ) (number : n ≡ h) (there : h < length now.lanes) (l : LaneState) (l_is : l ≡ get_or s.lanes n l) where
  inside : h < length s.lanes
  inside = subst (λ (x : CoreClientState). h < length x.lanes) (sym same) there

  lane_is : l ≡ lane_at s.lanes h
  lane_is = l_is ∙ ap (λ m. get_or s.lanes m l) number ∙ get_or-any s.lanes h l (fresh_lane 0) inside

  abbrev set_to : LaneState → List LaneState
  set_to k = set s.lanes n k

  lanes_are : (k j : LaneState) → k ≡ j → set_to k ≡ set s.lanes h j
  lanes_are k j is = λ i. set s.lanes (number i) (is i)

  pub code_sent : (p q : Parcel) (g : ℕ) → now.act ≡ acts.Send h p → s.act ≡ acts.Send g q → nat_lt (length l.down) lane_room ≡ true → (t : CoreClientState) → t.act ≡ next_act (mind_of s.mind) → mind_of t.mind ≡ next_mind (mind_of s.mind)
      → (k : LaneState) → k ≡ with_down l (l.down ++ q ∷ []) → t.lanes ≡ set_to k → IsCoreClient t × LaneSteps now t
  code_sent p q g asked is room t act handed k pushed lanes = search (rules, send_same, formed_done, sent_steps, lane_is, lanes_are)

  pub code_got : (x : HeldState) (m : MindState) → now.act ≡ acts.Await h → l.up ≡ Some x → mind_of m ≡ mind_after_object (mind_of s.mind) x → (t : CoreClientState) → t.act ≡ next_act (mind_of m) → mind_of t.mind ≡ next_mind (mind_of m)
      → (k : LaneState) → k ≡ with_up l None → t.lanes ≡ set_to k → IsCoreClient t × LaneSteps now t
  code_got x m asked lies came t act handed k taken lanes = search (rules, mind_is, same_handed, formed_after, got_steps, lane_is, lanes_are)

  pub code_chunk : (b : Batch Request) (m : MindState) → now.act ≡ acts.NeedChunk h → mind_of m ≡ mind_after_chunk (mind_of s.mind) h → (t : CoreClientState) → t.act ≡ next_act (mind_of m) → mind_of t.mind ≡ next_mind (mind_of m)
      → (k : LaneState) → l ≡ with_spare k (b ∷ k.spare) → t.lanes ≡ set_to k → IsCoreClient t × LaneSteps now t
  code_chunk b m asked came t act handed k taken lanes = search (rules, mind_is, same_handed, lane_is, formed_after, chunk_steps, lanes_are)

-- what asks for a chunk asks for it in the mind
pub asked_chunk : (s now : CoreClientState) → IsCoreClient s → s ≡ now → (h : ℕ) → now.act ≡ acts.NeedChunk h → Asks (mind_of s.mind) (acts.NeedChunk h)
asked_chunk s now kept same h asked = search (rules, asks, same_handed, asked_whole)

-- a client before its first block
module _ (code : ClientCode) (size : ℕ) where
  abbrev first : ClientModel
  first = fresh_mind code size

  first_stays : finish first ≡ first
  first_stays = λ k. record first { traces = extend_none first.traces 0 k }

  first_again : with_act_again (hands_out first (act_due first)) (act_due first) ≡ first
  first_again = λ k. record first { client = (acts_lose_nothing (settings_of first) (length code.blocks) first.client).whole k }

  module _ (old : MindState) (s : CoreClientState) (fresh : mind_of old ≡ first) (act : s.act ≡ next_act (mind_of old)) (handed : mind_of s.mind ≡ next_mind (mind_of old)) where
    stays : finish (mind_of old) ≡ first
    stays = ap finish fresh ∙ first_stays

    act_is : s.act ≡ act_due first
    act_is = act ∙ ap act_due stays

    handed_is : mind_of s.mind ≡ hands_out first (act_due first)
    handed_is = handed ∙ ap (λ (n : ClientModel). hands_out n (act_due n)) stays

    first_whole : whole_of s ≡ first
    unfolding whole_of
    first_whole = (λ k. with_act_again (handed_is k) (act_is k)) ∙ first_again

    pub fresh_formed : IsFormedOf first s
    fresh_formed = search (rules, whole_is, first_whole, act_is, handed_is)

-- whatever lies in its lanes
pub lanes_aside : (s : CoreClientState) → IsCoreClient s → (ls : List LaneState) → IsCoreClient (record { mind = s.mind; act = s.act; lanes = ls })
unfolding whole_of
lanes_aside s kept ls = record { act = kept.act; mind = kept.mind }
