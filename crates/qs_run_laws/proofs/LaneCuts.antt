-- The lists at the two ends of a lane are cut into tickets at the `End`s, and each ticket has the same on both sides.
-- What a handler received is a front of what a client sent, and what the client got is a front of what the handler
-- gave. The client's lists go block by block and the handler's turn by turn, each up to an `End`, with one object for
-- each `Sync`; so the first block is the first turn, and so on.
use Rattle.std.proofs.Common.{◌≡◌, arith, ℕ, suc, Bool, true, false, if◌then◌else◌, ◌==◌, List, [], ◌∷◌, ◌++◌, flat_map, length, refl, sym, ap, ap₂, ◌∙◌, subst, rules}
use Rattle.qs_played.proofs.Names.{AllByRecursion, HeldState, IsFront, Event, Ticket, eqb_self, each_kept}
use Rattle.qs_core_laws.proofs.Names.{ClientLane, HandlerLane, gone, over, ran_all, Parcel}
use Rattle.qs_chunk.specs.declared.parcel.Parcel.TheVariants.{Work, Sync, Home, End}
use Rattle.qs_handler.specs.HandlerTurns.{Turn, TurnsLead, turns_for}
use Rattle.qs_core_laws.proofs.protocol.LaneFronts.{front_rest}
use Rattle.qs_core_laws.proofs.protocol.LaneParts.{IsEnded, gone_ended}

-- how often the object was asked for
abbrev syncs : List Parcel → ℕ
syncs [] = 0
syncs (Sync ∷ ps) = suc (syncs ps)
syncs (_ ∷ ps) = syncs ps

-- with the Sync that came before, if one did
abbrev with_sync : Bool → ℕ → ℕ
with_sync false n = n
with_sync true n = suc n

-- up to an End, and an object for each Sync
pub record IsWhole (parcels : List Parcel) (objects : List HeldState) : Type 0 where
  pub ended : IsEnded parcels
  pub served : length objects ≡ syncs parcels

turn_ended : (t : Ticket) (asked : Bool) (x z : HeldState) (received : List Parcel) (gave : List HeldState)
    → HandlerLane t asked x received gave (over z) → IsEnded received × (length gave ≡ with_sync asked (syncs received))
turn_ended t false x z [] gave k = absurd (cc (k.1))
turn_ended t false x z (Work chunk ∷ received) gave k = turn_ended t false (ran_all x t chunk.items) z received gave k
turn_ended t false x z (Sync ∷ received) gave k = turn_ended t true x z received gave k
turn_ended t false x z (End ∷ received) gave k = (k.0, ap length k.1 ∙ sym (ap syncs k.0))
turn_ended t true x z [] [] k = absurd (cc (k))
turn_ended t true x z [] (g ∷ gave) k = absurd (cc (k.2))
turn_ended t true x z (Home y ∷ received) gave k =
    let r = turn_ended t false y z received k.0 k.2 in
    (r.0, ap length k.1 ∙ ap suc r.1)
turn_ended t _ x z (_ ∷ received) gave k = absurd k

block_served : (t : Ticket) (asked : Bool) (sent : List Parcel) (got : List HeldState) (es : List Event)
    → ClientLane t asked sent got es gone → length got ≡ with_sync asked (syncs sent)
block_served t false (Work chunk ∷ sent) got es k = block_served t false sent got k.0 k.3
block_served t false (Sync ∷ sent) got es k = block_served t true sent got es k
block_served t false (End ∷ sent) got es k = ap length k.1 ∙ sym (ap syncs k.0)
block_served t true [] (g ∷ got) es k = absurd (cc (k.2))
block_served t true (Home y ∷ sent) got es k = ap length k.4 ∙ ap suc (block_served t false sent k.1 k.3 k.7)
block_served t _ (_ ∷ sent) got es k = absurd k
block_served t _ [] _ es k = absurd (cc (k.1))

-- what a client sent and got in a block for an object that it has left
pub block_whole : (t : Ticket) (sent : List Parcel) (got : List HeldState) (es : List Event) → ClientLane t false sent got es gone → IsWhole sent got
block_whole t sent got es k = record { ended = gone_ended t false sent got es k; served = block_served t false sent got es k }

-- what a handler received and gave in each turn
pub turns_whole : (x z : HeldState) (us : List Turn) → TurnsLead x us z → AllByRecursion (λ (u : Turn). IsWhole u.received u.gave) us
turns_whole x z [] k = tt
turns_whole x z (u ∷ us) k =
    let here = turn_ended u.ticket false x k.0 u.received u.gave k.1 in
    (record { ended = here.0; served = here.1 }, turns_whole k.0 z us k.2)

-- two lists up to an End each, with more behind them, of which one is a front of the other
first_cut : (a b r s : List Parcel) → IsEnded a → IsEnded b → IsFront (a ++ r) (b ++ s) → (a ≡ b) × IsFront r s
first_cut [] b r s ended_a ended_b f = absurd ended_a
first_cut (p ∷ a) [] r s ended_a ended_b f = absurd ended_b
first_cut (End ∷ a) (q ∷ b) r s ended_a ended_b f =
    let e = front_rest End q (a ++ r) (b ++ s) f in
    let none : b ≡ [] = subst (λ q. IsEnded (q ∷ b)) (sym e.0) ended_b in
    (ap₂ (λ p a. p ∷ a) e.0 (ended_a ∙ sym none), subst (λ a. IsFront (a ++ r) s) ended_a (subst (λ b. IsFront (a ++ r) (b ++ s)) none e.1))
first_cut (Work chunk ∷ a) (q ∷ b) r s ended_a ended_b f =
    let e = front_rest (Work chunk) q (a ++ r) (b ++ s) f in
    let more = first_cut a b r s ended_a (subst (λ q. IsEnded (q ∷ b)) (sym e.0) ended_b) e.1 in
    (ap₂ (λ p a. p ∷ a) e.0 more.0, more.1)
first_cut (Sync ∷ a) (q ∷ b) r s ended_a ended_b f =
    let e = front_rest Sync q (a ++ r) (b ++ s) f in
    let more = first_cut a b r s ended_a (subst (λ q. IsEnded (q ∷ b)) (sym e.0) ended_b) e.1 in
    (ap₂ (λ p a. p ∷ a) e.0 more.0, more.1)
first_cut (Home x ∷ a) (q ∷ b) r s ended_a ended_b f =
    let e = front_rest (Home x) q (a ++ r) (b ++ s) f in
    let more = first_cut a b r s ended_a (subst (λ q. IsEnded (q ∷ b)) (sym e.0) ended_b) e.1 in
    (ap₂ (λ p a. p ∷ a) e.0 more.0, more.1)

-- two lists of equal length, with more behind them, of which one is a front of the other
equal_lengths : (a b r s : List HeldState) → length a ≡ length b → IsFront (a ++ r) (b ++ s) → (a ≡ b) × IsFront r s
equal_lengths [] [] r s e f = (refl, f)
equal_lengths (x ∷ a) (y ∷ b) r s e f =
    let here = front_rest x y (a ++ r) (b ++ s) f in
    let more = equal_lengths a b r s (let l : length a ≡ length b = omega (arith, e) in l) here.1 in
    (ap₂ (λ p a. p ∷ a) here.0 more.0, more.1)
equal_lengths _ _ r s e f = absurd (omega (arith, e))

-- what the client sent and got for a ticket is what the handler received and gave in its turn
pub record IsMet (sent : Ticket → List Parcel) (got : Ticket → List HeldState) (u : Turn) : Type 0 where
  pub parcels : sent u.ticket ≡ u.received
  pub objects : got u.ticket ≡ u.gave

module _ (sent : Ticket → List Parcel) (got : Ticket → List HeldState) where
  abbrev Turned : List Turn → Type 0
  Turned us = AllByRecursion (λ (u : Turn). IsWhole u.received u.gave) us

  abbrev pub Sent : List Turn → Type 0
  Sent us = AllByRecursion (λ (u : Turn). IsWhole (sent u.ticket) (got u.ticket)) us

  -- the two ends' lists for these turns
  pub record AreFronts (us : List Turn) : Type 0 where
    pub parcels : IsFront (flat_map (λ (u : Turn). u.received) us) (flat_map (λ (u : Turn). sent u.ticket) us)
    pub objects : IsFront (flat_map (λ (u : Turn). got u.ticket) us) (flat_map (λ (u : Turn). u.gave) us)

  cut : (us : List Turn) → Turned us → Sent us → AreFronts us → AllByRecursion (IsMet sent got) us
  cut [] turned whole fronts = tt
  cut (u ∷ us) turned whole fronts =
      let parcels = first_cut u.received (sent u.ticket) (flat_map (λ (u : Turn). u.received) us) (flat_map (λ (u : Turn). sent u.ticket) us)
      turned.0.ended whole.0.ended fronts.parcels in
      let objects = equal_lengths (got u.ticket) u.gave (flat_map (λ (u : Turn). got u.ticket) us) (flat_map (λ (u : Turn). u.gave) us)
      (whole.0.served ∙ (ap syncs (sym parcels.0) ∙ sym turned.0.served)) fronts.objects in
      (record { parcels = sym parcels.0; objects = objects.0 }, cut us turned.1 whole.1 (record { parcels = parcels.1; objects = objects.1 }))

  -- what holds of each client's turns holds of all
  each_client : (P : Turn → Type 0) (us : List Turn) → ((c : ℕ) → AllByRecursion P (turns_for c us)) → AllByRecursion P us
  each_client P [] k = tt
  each_client P (u ∷ us) k =
      ((rw (eqb_self u.ticket.client) at (k u.ticket.client)).0, each_client P us (λ c. rest (u.ticket.client == c) c (k c)))
    where
      rest : (b : Bool) (c : ℕ) → AllByRecursion P (if b then u ∷ turns_for c us else turns_for c us) → AllByRecursion P (turns_for c us)
      rest true c k = k.1
      rest false c k = k

  -- of all turns of a handler: where each client's lane has it so
  pub turns_meet : (x z : HeldState) (us : List Turn) → TurnsLead x us z → Sent us → ((c : ℕ) → AreFronts (turns_for c us)) → AllByRecursion (IsMet sent got) us
  turns_meet x z us lead whole fronts = search (rules, each_client, cut, each_kept, turns_whole)
