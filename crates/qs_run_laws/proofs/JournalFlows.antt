-- An object's journal grows along the order of reservations, one block after another. Its handler served whole what
-- each client sent, so for each ticket the journal gets what the block's trace says of the object; a block that does
-- not reserve the object adds nothing. The room suffices, as no block's part is longer than its load.
use Rattle.std.proofs.Common.{◌≡◌, ◌+◌, ◌≤◌, arith, ℕ, Bool, true, false, true≢false, if◌then◌else◌, List, [], ◌∷◌, ◌++◌, map, flat_map, filter, length, refl, sym, ap, ◌∙◌, subst, inl, append_assoc, append-nil, rules}
use Rattle.qs_played.proofs.Names.{AllByRecursion, HeldState, replay, without_tickets, IsHonest, stamp, Entry, Event, Ticket, ProgramShape, reserves, Flow, ObjectCourse, done_of, parts_of, IsDone, BlockRecord}
use Rattle.qs_core_laws.proofs.Names.{ClientLane, Extends, gone, sends, Parcel, total, apart_from}
use Rattle.qs_core_laws.proofs.protocol.LaneWholes.{match_over}
use Rattle.qs_core_laws.proofs.protocol.ObjectViews.{PastOf}
use Rattle.qs_core_laws.proofs.protocol.GrownJournals.{Grown, grown, grown_room, stamped_honest, stamped_replay}

-- nothing passes between a block and an object that it does not reserve
no_requests : (t : Ticket) (sent : List Parcel) (got : List HeldState) (es : List Event) → sent ≡ [] → got ≡ [] → ClientLane t false sent got es (sends []) → es ≡ []
no_requests t sent got es none_sent none_got lane = search rules

module _ (p : ProgramShape) (block_record : Ticket → BlockRecord) (h : ℕ) (sent : Ticket → List Parcel) (got : Ticket → List HeldState) (end : HeldState) where
  abbrev parts : Ticket → List Event
  parts = parts_of block_record h

  -- a block that is over, at the object
  pub record IsOver (t : Ticket) : Type 0 where
    pub done : IsDone (block_record t).rest
    pub lane : ClientLane t false (sent t) (got t) (parts t) (apart_from p t h)
    pub outside : reserves p t h ≡ false → (sent t ≡ []) × (got t ≡ [])

  -- nothing is on its way, and the object is served by nobody
  abbrev pub over_line : ObjectCourse
  over_line = record { may = λ t. reserves p t h; parts = parts; done = done_of block_record; waits = λ t. []; busy = ⊥; present = end.object }

  -- what the journal got from here on, and where it leads
  pub record JournalGrowth (x : HeldState) (ts : List Ticket) : Type 0 where
    pub more : List Entry
    pub journal : end.journal ≡ x.journal ++ more
    pub by_tickets : more ≡ flat_map (λ t. map (stamp t) (parts t)) ts
    pub flow : Flow over_line x.object more ts
    pub honest : IsHonest x.object (without_tickets more)
    pub replayed : replay x.object (without_tickets more) ≡ end.object

  abbrev pub size_of : List Ticket → ℕ
  size_of ts = total (λ t. length (parts t)) ts

  none_at : (t : Ticket) → IsOver t → reserves p t h ≡ false → parts t ≡ []
  none_at t over out = search (rules, no_requests)

  grows_past : (t : Ticket) (ts : List Ticket) (x : HeldState) → IsOver t → reserves p t h ≡ false → JournalGrowth x ts → JournalGrowth x (t ∷ ts)
  grows_past t ts x over out next = record {
    more = next.more;
    journal = next.journal;
    by_tickets = next.by_tickets ∙ ap (λ es. map (stamp t) es ++ flat_map (λ t. map (stamp t) (parts t)) ts) (sym (none_at t over out));
    flow = (
      record { ran = []; later = next.more; journal_is = refl; part_is = none_at t over out; honest = tt; commands = tt },
      inl ((λ m. absurd (true≢false (sym m ∙ out))), refl, next.flow),
    );
    honest = next.honest;
    replayed = next.replayed;
  }

  grows_over : (t : Ticket) (ts : List Ticket) (x y : HeldState) → IsOver t → Extends t x (parts t) y → Grown t x (parts t) y → JournalGrowth y ts → JournalGrowth x (t ∷ ts)
  grows_over t ts x y over extends e next = record {
    more = map (stamp t) (parts t) ++ next.more;
    journal = next.journal ∙ (ap (λ j. j ++ next.more) e.journal ∙ append_assoc x.journal (map (stamp t) (parts t)) next.more);
    by_tickets = ap (λ j. map (stamp t) (parts t) ++ j) next.by_tickets;
    flow = (
      record { ran = parts t; later = next.more; journal_is = refl; part_is = sym (append-nil (parts t)); honest = e.honest; commands = tt },
      inl ((λ m. over.done), refl, subst (λ o. Flow over_line o next.more ts) e.state next.flow),
    );
    honest = stamped_honest t x y (parts t) next.more e next.honest;
    replayed = stamped_replay t x y (parts t) next.more e ∙ next.replayed;
  }

  -- along the order, where the journal has room
  pub grows : (ts : List Ticket) (x : HeldState) → AllByRecursion IsOver ts → PastOf sent got x (filter (λ t. reserves p t h) ts) end
      → length x.journal + size_of ts ≤ x.room → JournalGrowth x ts
  grows [] x over past room = search (rules, append-nil)
  grows (t ∷ ts) x over past room = by_case (reserves p t h) refl past (λ x past room. grows ts x over.1 past room)
    where
      by_case : (b : Bool) → reserves p t h ≡ b → PastOf sent got x (if b then t ∷ filter (λ t. reserves p t h) ts else filter (λ t. reserves p t h) ts) end
          → ((x : HeldState) → PastOf sent got x (filter (λ t. reserves p t h) ts) end → length x.journal + size_of ts ≤ x.room → JournalGrowth x ts)
          → JournalGrowth x (t ∷ ts)
      by_case false out past next = grows_past t ts x over.0 out (next x past (omega (arith, room)))
      by_case true own past next =
          let y = past.0 in
          let lane = subst (λ b. ClientLane t false (sent t) (got t) (parts t) (if b then gone else sends [])) own over.0.lane in
          let met = match_over t x y (sent t) (got t) past.1 (parts t) gone lane past.2 past.3 in
          let e = grown t x (parts t) y met.0 (omega (arith, room)) in
          grows_over t ts x y over.0 met.0 e (next y past.4 (grown_room t x y (parts t) (size_of ts) e room))
