-- What a client sent and got for a block is what each handler received and gave in its turn. The desk gives that the
-- blocks of a client are its tickets in the order and that a handler's turns are the tickets of the order that reserve
-- it; the lanes give that the two ends had the same. So a handler served whole what the clients of its tickets sent,
-- one ticket after another.
use Rattle.std.proofs.Common.{◌≡◌, ◌<◌, arith, ℕ, true, false, if◌then◌else◌, nat_lt, ◌==◌, List, [], ◌∷◌, map, flat_map, length, refl, sym, ap, ◌∙◌, subst, append-nil, rules}
use Rattle.qs_played.proofs.Names.{AllByRecursion, HeldState, IsFront, part, Ticket, eqb_true, ProgramShape, blocks_of, IsSound, reserves, each_both, each_kept, each_map, each_passes, ticket, fresh_held}
use Rattle.qs_core_laws.proofs.Names.{ClientCode, AreCodes, Mode, IsLaneRun, ClientLane, HandlerLane, gone, over, sends, Parcel, given_to, received_from, got_from, reservations, sent_to, no_block_beyond, reserved_inside, upto}
use Rattle.qs_run_laws.proofs.Names.{Turn, TurnsLead, turns_for, of_client, of_handler, IsThreadRun, ThreadRun}
use Rattle.qs_core_laws.proofs.protocol.ObjectViews.{PastOf}
use Rattle.qs_run_laws.proofs.ClientTickets.{along_turns, legal_tickets, upto_tickets, without_others}
use Rattle.qs_run_laws.proofs.LaneCuts.{AreFronts, IsMet, Sent, block_whole, turns_meet}
use Rattle.qs_run_laws.proofs.ThreadHistories.{block_begun, count_is, count_of, deeds_of, held_of, inside, tale, tasks_of, turned, turns_are}

-- what holds of all tickets of turns
each_unmapped : (P : Ticket → Type 0) (us : List Turn) → AllByRecursion P (map (λ (u : Turn). u.ticket) us) → AllByRecursion (λ (u : Turn). P u.ticket) us
each_unmapped P [] k = tt
each_unmapped P (u ∷ us) k = (k.0, each_unmapped P us k.1)

-- turns that met their blocks
served : (sent : Ticket → List Parcel) (got : Ticket → List HeldState) (us : List Turn) (x z : HeldState) → TurnsLead x us z → AllByRecursion (IsMet sent got) us
    → PastOf sent got x (map (λ (u : Turn). u.ticket) us) z
served sent got [] x z lead met = lead
served sent got (u ∷ us) x z lead met = (
  lead.0,
  u.gave,
  subst (λ ps. HandlerLane u.ticket false x ps u.gave (over lead.0)) (sym met.0.parcels) lead.1,
  ([], append-nil (got u.ticket) ∙ met.0.objects),
  served sent got us lead.0 z lead.2 met.1,
)

module _ (p : ProgramShape) (sound : IsSound p) (mode : Mode) (code : ℕ → ClientCode) (codes : AreCodes p mode code) (size : ℕ) (r : ThreadRun)
    (run : IsThreadRun p code size r) where
  -- what a ticket's client sent and got for an object
  abbrev pub sent_for : ℕ → Ticket → List Parcel
  sent_for h t = (tale p sound mode code codes size r run t.client).sent t.index h

  abbrev pub got_for : ℕ → Ticket → List HeldState
  got_for h t = (tale p sound mode code codes size r run t.client).got t.index h

  -- an own ticket of a handler
  record IsOwn (h : ℕ) (t : Ticket) : Type 0 where
    pub few : t.index < blocks_of p t.client
    pub own : reserves p t h ≡ true

  own_tickets : (h : ℕ) → AllByRecursion (IsOwn h) (of_handler p h r.order)
  own_tickets h =
      each_both (λ (t : Ticket) (few : t.index < blocks_of p t.client) (own : reserves p t h ≡ true). record { few = few; own = own }) (of_handler p h r.order)
      (each_kept (λ (t : Ticket). t.index < blocks_of p t.client) (λ t. reserves p t h) r.order (inside p sound mode code codes size r run))
      (each_passes (λ t. reserves p t h) r.order)

  own_turns : (h : ℕ) → AllByRecursion (λ (u : Turn). IsOwn h u.ticket) (turned p sound mode code codes size r run h).turns
  own_turns h =
      each_unmapped (IsOwn h) (turned p sound mode code codes size r run h).turns
      (subst (AllByRecursion (IsOwn h)) (sym (turns_are p sound mode code codes size r run h)) (own_tickets h))

  sent_whole : (h : ℕ) → Sent (sent_for h) (got_for h) (turned p sound mode code codes size r run h).turns
  sent_whole h =
      each_map (λ (u : Turn) (is : IsOwn h u.ticket).
      let t = u.ticket in
      let history = tale p sound mode code codes size r run t.client in
      let block = history.blocks t.index (block_begun p sound mode code codes size r run t is.few) in
      let events = part h (history.block_record t.index).trace in
      block_whole t (sent_for h t) (got_for h t) events
      (subst (λ b. ClientLane t false (sent_for h t) (got_for h t) events (if b then gone else sends [])) is.own (block.lanes h)))
      (turned p sound mode code codes size r run h).turns (own_turns h)

  -- a client's blocks are as many as its tickets in the order
  tickets_count : (c : ℕ) → c < length p.clients → length (of_client c r.order) ≡ count_of p sound mode code codes size r run c
  tickets_count c own =
      let here : nat_lt c (length p.clients) ≡ true = grind (arith, own) in
      run.booked c own ∙ (ap (λ b. reservations (if b then r.deeds c else [])) (sym here) ∙ (tale p sound mode code codes size r run c).reserved)

  -- a client's lists for an object, ticket by ticket
  along : {A : Type 0} (f : Ticket → List A) (c h : ℕ) → c < length p.clients → AllByRecursion (λ t. reserves p t h ≡ false → f t ≡ []) r.order
      → upto (λ k. f (ticket c k)) (count_of p sound mode code codes size r run c)
      ≡ flat_map (λ (u : Turn). f u.ticket) (turns_for c (turned p sound mode code codes size r run h).turns)
  along f c h own none =
      ap (upto (λ k. f (ticket c k))) (sym (tickets_count c own))
      ∙ (upto_tickets f c (length (of_client c r.order))
      ∙ (ap (flat_map f) (sym (legal_tickets p c (λ _. 0) r.order run.legal))
      ∙ (without_others f c (λ t. reserves p t h) r.order none
      ∙ (ap (λ ts. flat_map f (of_client c ts)) (sym (turns_are p sound mode code codes size r run h))
      ∙ along_turns f c (turned p sound mode code codes size r run h).turns))))

  unsent : (h : ℕ) → AllByRecursion (λ t. reserves p t h ≡ false → sent_for h t ≡ []) r.order
  unsent h = each_map {Q = λ t. reserves p t h ≡ false → sent_for h t ≡ []} (λ (t : Ticket) (few : t.index < blocks_of p t.client) (out : reserves p t h ≡ false).
      (((tale p sound mode code codes size r run t.client).blocks t.index (block_begun p sound mode code codes size r run t few)).outside h out).0)
      r.order (inside p sound mode code codes size r run)

  ungot : (h : ℕ) → AllByRecursion (λ t. reserves p t h ≡ false → got_for h t ≡ []) r.order
  ungot h = each_map {Q = λ t. reserves p t h ≡ false → got_for h t ≡ []} (λ (t : Ticket) (few : t.index < blocks_of p t.client) (out : reserves p t h ≡ false).
      (((tale p sound mode code codes size r run t.client).blocks t.index (block_begun p sound mode code codes size r run t few)).outside h out).1)
      r.order (inside p sound mode code codes size r run)

  -- where some block of client c reserves h, the lane between them
  module _ (c h : ℕ) (t : Ticket) (is : IsOwn h t) (from : t.client ≡ c) where
    few : t.index < blocks_of p c
    few = subst (λ c. t.index < blocks_of p c) from is.few

    client : c < length p.clients
    client = let some = few in no_block_beyond p c (omega (arith, some))

    handler : h < length p.objects
    handler = reserved_inside p sound t h is.own

    lane : IsLaneRun size (sent_to h (r.deeds c)) (received_from c (r.tasks h)) (given_to c (r.tasks h)) (got_from h (r.deeds c))
    lane = run.lanes c t.index h few (subst (λ d. reserves p (ticket d t.index) h ≡ true) from is.own)

    deeds_are : deeds_of p sound mode code codes size r run c ≡ r.deeds c
    deeds_are = let here : nat_lt c (length p.clients) ≡ true = (let own = client in grind (arith, own)) in rw here refl

    tasks_are : tasks_of p sound mode code codes size r run h ≡ r.tasks h
    tasks_are = let here : nat_lt h (length p.objects) ≡ true = (let own = handler in grind (arith, own)) in rw here refl

    fronts : AreFronts (sent_for h) (got_for h) (turns_for c (turned p sound mode code codes size r run h).turns)
    fronts =
        let history = tale p sound mode code codes size r run c in
        let us = turned p sound mode code codes size r run h in
        let sent_is = ap (sent_to h) (sym deeds_are) ∙ (history.sent_is h ∙ along (sent_for h) c h client (unsent h)) in
        let got_is = ap (got_from h) (sym deeds_are) ∙ (history.got_is h ∙ along (got_for h) c h client (ungot h)) in
        let received_is = ap (received_from c) (sym tasks_are) ∙ us.received c in
        let given_is = ap (given_to c) (sym tasks_are) ∙ us.given c in
        record {
          parcels = subst (λ xs. IsFront xs (flat_map (λ (u : Turn). sent_for h u.ticket) (turns_for c us.turns))) received_is
              (subst (IsFront (received_from c (r.tasks h))) sent_is lane.parcels);
          objects = subst (λ xs. IsFront xs (flat_map (λ (u : Turn). u.gave) (turns_for c us.turns))) got_is
              (subst (IsFront (got_from h (r.deeds c))) given_is lane.objects);
        }

  client_fronts : (h c : ℕ) → AreFronts (sent_for h) (got_for h) (turns_for c (turned p sound mode code codes size r run h).turns)
  client_fronts h c =
      by_turns (turns_for c (turned p sound mode code codes size r run h).turns) refl
      (each_both (λ (u : Turn) (is : IsOwn h u.ticket) (from : (u.ticket.client == c) ≡ true). (is, eqb_true u.ticket.client c from))
      (turns_for c (turned p sound mode code codes size r run h).turns)
      (each_kept (λ (u : Turn). IsOwn h u.ticket) (λ (u : Turn). u.ticket.client == c) (turned p sound mode code codes size r run h).turns (own_turns h))
      (each_passes (λ (u : Turn). u.ticket.client == c) (turned p sound mode code codes size r run h).turns))
    where
      by_turns : (us : List Turn) → turns_for c (turned p sound mode code codes size r run h).turns ≡ us
          → AllByRecursion (λ (u : Turn). IsOwn h u.ticket × (u.ticket.client ≡ c)) us → AreFronts (sent_for h) (got_for h) (turns_for c (turned p sound mode code codes size r run h).turns)
      by_turns [] none is = subst (AreFronts (sent_for h) (got_for h)) (sym none) (record { parcels = ([], refl); objects = ([], refl) })
      by_turns (u ∷ us) some is = fronts c h u.ticket is.0.0 is.0.1

  pub met : (h : ℕ) → AllByRecursion (IsMet (sent_for h) (got_for h)) (turned p sound mode code codes size r run h).turns
  met h =
      let us = turned p sound mode code codes size r run h in
      turns_meet (sent_for h) (got_for h) (fresh_held p h) (held_of p sound mode code codes size r run h) us.turns us.lead (sent_whole h) (client_fronts h)

  -- each handler served whole what its tickets' clients sent, one ticket after another
  pub served_whole : (h : ℕ) → PastOf (sent_for h) (got_for h) (fresh_held p h) (of_handler p h r.order) (held_of p sound mode code codes size r run h)
  served_whole h =
      let us = turned p sound mode code codes size r run h in
      subst (λ ts. PastOf (sent_for h) (got_for h) (fresh_held p h) ts (held_of p sound mode code codes size r run h)) (turns_are p sound mode code codes size r run h)
      (served (sent_for h) (got_for h) us.turns (fresh_held p h) (held_of p sound mode code codes size r run h) us.lead (met h))

  pub all_counted : (c : ℕ) → c < length p.clients → length (of_client c r.order) ≡ blocks_of p c
  all_counted c own = tickets_count c own ∙ count_is p sound mode code codes size r run c
