-- How a client stands to the lane of a handler in the midst of its run: what it sent there by its deeds is what its
-- mind believes, so that what it hands out next may follow.
use Rattle.std.proofs.Common.{◌≡◌, ℕ, true, false, if◌then◌else◌, ◌==◌, List, [], ◌∷◌, ◌++◌, sym, subst, ⊎_elim, append_assoc, append-nil, rules, arith}
use Rattle.qs_objects.proofs.Choices.{apart_eqb, eqb_self, num_cases}
use Rattle.qs_core_laws.proofs.Names.{Parcel, Act, ClientModel, mind_after_begin, mind_after_chunk, finish, mind_after_object, hands_out, next_act, next_mind}
use Rattle.qs_client.specs.run.NextActs.{SendsNothing}
use Rattle.qs_client.specs.declared.rules.act.Act.TheVariants as acts
use Rattle.qs_client.specs.ClientLanes.{MindStandsAt}
use Rattle.qs_client.specs.audit.ClientRuns.{Deed, DeedsLead, next_ticket, reserves, sends, gets, takes_chunk, sent_to}
use Rattle.qs_client.specs.ClientModel.{Asks}
use Rattle.qs_client.proofs.MindRefinement.{quiet_asks}
use Rattle.qs_client.proofs.LaneSends.{client_lane_laws}

-- an act that sends nothing is asked for once it was handed out
pub next_asks : (m : ClientModel) (act : Act) → SendsNothing act → next_act m ≡ act → Asks (next_mind m) act
next_asks m act quiet is = subst (λ a. Asks (hands_out (finish m) a) act) (sym is) (quiet_asks (finish m) act quiet (sym is))

-- and leaves the client at the lane
quiet_stays : (m : ClientModel) (h : ℕ) (sent : List Parcel) (act : Act) → SendsNothing act → next_act m ≡ act → MindStandsAt m h sent → MindStandsAt (next_mind m) h sent
quiet_stays m h sent act quiet is = client_lane_laws.quiet m h sent (subst SendsNothing (sym is) quiet)

module _ (c h : ℕ) where
  pub stands_along : (deeds : List Deed) (m end : ClientModel) (sent : List Parcel) → MindStandsAt m h sent → DeedsLead c m deeds end
      → MindStandsAt end h (sent ++ sent_to h deeds)
  stands_along [] m end sent stands lead = search (rules, append-nil)
  stands_along (reserves ∷ deeds) m end sent stands lead =
      let t = next_ticket c (next_mind m) in
      stands_along deeds (mind_after_begin (next_mind m) t) end sent
      (client_lane_laws.tickets (next_mind m) t h sent (next_asks m acts.Reserve tt lead.0) (quiet_stays m h sent acts.Reserve tt lead.0 stands)) lead.1
  stands_along (sends g parcel ∷ deeds) m end sent stands lead =
      ⊎_elim
      (λ (own : g ≡ h).
      let here : next_act m ≡ acts.Send h parcel = subst (λ g. next_act m ≡ acts.Send g parcel) own lead.0 in
      let is : (g == h) ≡ true = subst (λ g. (g == h) ≡ true) (sym own) (eqb_self h) in
      subst (λ b. MindStandsAt end h (sent ++ (if b then parcel ∷ sent_to h deeds else sent_to h deeds))) (sym is)
      (subst (MindStandsAt end h) (append_assoc sent (parcel ∷ []) (sent_to h deeds))
      (stands_along deeds (next_mind m) end (sent ++ parcel ∷ []) (client_lane_laws.sends m h parcel sent here stands).1 lead.1)))
      (λ (other : (g == h) ≡ false).
      subst (λ b. MindStandsAt end h (sent ++ (if b then parcel ∷ sent_to h deeds else sent_to h deeds))) (sym other)
      (stands_along deeds (next_mind m) end sent (client_lane_laws.sends_elsewhere m g h parcel sent lead.0 (apart_eqb g h other) stands) lead.1))
      (num_cases g h)
  stands_along (gets g x ∷ deeds) m end sent stands lead =
      stands_along deeds (mind_after_object (next_mind m) x) end sent
      (client_lane_laws.objects (next_mind m) g x h sent (next_asks m (acts.Await g) tt lead.0) (quiet_stays m h sent (acts.Await g) tt lead.0 stands)) lead.1
  stands_along (takes_chunk g ∷ deeds) m end sent stands lead =
      stands_along deeds (mind_after_chunk (next_mind m) g) end sent
      (client_lane_laws.chunks (next_mind m) g h sent (next_asks m (acts.NeedChunk g) tt lead.0) (quiet_stays m h sent (acts.NeedChunk g) tt lead.0 stands))
      lead.1
