-- A client's deeds, one run of them after another: where they lead, and what was sent, got and reserved by them. So
-- what is known of a run grows with its next deed, at the end.
use Rattle.std.proofs.Common.{◌≡◌, arith, ℕ, ◌+◌, Bool, true, false, if◌then◌else◌, ◌==◌, List, [], ◌∷◌, ◌++◌, refl, sym, ap, subst, add-zero, rules}
use Rattle.qs_core_laws.proofs.Names.{Deed, DeedsLead, got_from, next_ticket, reservations, sent_to, ClientModel, mind_after_begin, mind_after_chunk, mind_after_object, next_mind}
use Rattle.qs_client.specs.audit.ClientRuns as deeds

-- they lead on
pub deeds_join : (c : ℕ) (before after : List Deed) (first m end : ClientModel) → DeedsLead c first before m → DeedsLead c m after end
    → DeedsLead c first (before ++ after) end
deeds_join c [] after first m end lead next = subst (λ (first : ClientModel). DeedsLead c first after end) (sym lead) next
deeds_join c (deeds.reserves ∷ before) after first m end lead next =
    (lead.0, deeds_join c before after (mind_after_begin (next_mind first) (next_ticket c (next_mind first))) m end lead.1 next)
deeds_join c (deeds.sends h p ∷ before) after first m end lead next = (lead.0, deeds_join c before after (next_mind first) m end lead.1 next)
deeds_join c (deeds.gets h x ∷ before) after first m end lead next = (lead.0, deeds_join c before after (mind_after_object (next_mind first) x) m end lead.1 next)
deeds_join c (deeds.takes_chunk h ∷ before) after first m end lead next =
    (lead.0, deeds_join c before after (mind_after_chunk (next_mind first) h) m end lead.1 next)

-- one more in front, or not
pub front_join : {A : Type 0} (b : Bool) (x : A) (all front back : List A) → all ≡ front ++ back
    → (if b then x ∷ all else all) ≡ (if b then x ∷ front else front) ++ back
front_join v x all front back e = search rules

-- what it sent and got, and reserved, by deeds one after another
pub sent_join : (h : ℕ) (before after : List Deed) → sent_to h (before ++ after) ≡ sent_to h before ++ sent_to h after
sent_join h [] after = refl
sent_join h (deeds.sends a p ∷ before) after = search (rules, front_join, sent_join h before after)
sent_join h (_ ∷ before) after = sent_join h before after

pub got_join : (h : ℕ) (before after : List Deed) → got_from h (before ++ after) ≡ got_from h before ++ got_from h after
got_join h [] after = refl
got_join h (deeds.gets a x ∷ before) after = search (rules, front_join, got_join h before after)
got_join h (_ ∷ before) after = got_join h before after

pub reservations_join : (before after : List Deed) → reservations (before ++ after) ≡ reservations after + reservations before
reservations_join [] after = sym (add-zero (reservations after))
reservations_join (deeds.reserves ∷ before) after = let ih = reservations_join before after in omega (arith, ih)
reservations_join (_ ∷ before) after = reservations_join before after
