-- Runs of the optimised machine are isolated: the histories of their lanes make up an abstract run, whose journals flow
-- as the handlers served.
use Rattle.std.proofs.Common.{◌≡◌, ◌<◌, ◌≤◌, ℕ, zero, suc, ◌+◌, ◌&&◌, ◌||◌, Bool, true, false, nat_lt, nat_eq, List, [], ◌∷◌, ◌++◌, length, refl, ap, ap₂, sym, subst, ◌∙◌, arith, rules}
use Rattle.qs_played.proofs.Names.{get_or-map, get_or_past, length-map, get_or-map-range_with_len, length-range_with_len, range_with_len, HeldState, replay, without_tickets, IsHonest, HasEntry, Ticket, and_cases, reserves, ProgramShape, blocks_of, declared_states, no_state, IsSound, each_map, Among, Flow, ObjectCourse, done_of, parts_of, IsDone, line, journal_of, state_of, ticket_at, ticket, Played}
use Rattle.qs_meaning.specs.audit.Interaction as tree
use Rattle.qs_core_laws.proofs.Names.{Handler, free, is_free, serving, ClientStage, between, is_between, has_ended, each_among, legal_among, no_block_beyond, Core, core_begin, all_of, core_played, core_plays, held_now, held_or_none, is_done, is_finished, is_idle, CoreRunsAreIsolated, on_way}
use Rattle.qs_played.specs.Isolation.{IsIsolated}
use Rattle.qs_played.proofs.AbstractRun.{IsRun, run_isolated}
use Rattle.qs_core_laws.proofs.protocol.ClientInvariants.{PlaceOk}
use Rattle.qs_core_laws.proofs.protocol.ObjectViews.{HandlerLog, ahead}
use Rattle.qs_core_laws.proofs.protocol.ReservedLists.{lined}
use Rattle.qs_core_laws.proofs.JournalOrder.{goes}
use Rattle.qs_core_laws.proofs.CoreInvariant.{LaneHistory, post, TicketOk, CoreInvariant}
use Rattle.qs_core_laws.proofs.CoreObjects.{now, object_found}
use Rattle.qs_core_laws.proofs.CoreSteps.{run_kept}

-- what holds of all numbers of a range holds of each
pub all_of_at : (is : ℕ → Bool) (a n i : ℕ) → all_of is (range_with_len a n) ≡ true → a ≤ i → i < a + n → is i ≡ true
all_of_at is a zero i all low high = absurd (omega (arith, low, high))
all_of_at is a (suc n) i all low high =
    let both = and_cases (is a) (all_of is (range_with_len (a + 1) n)) all in
    by_first (nat_lt a i) refl both.0 (λ above. all_of_at is (a + 1) n i both.1 above (omega (arith, high)))
  where
    by_first : (b : Bool) → nat_lt a i ≡ b → is a ≡ true → (a + 1 ≤ i → is i ≡ true) → is i ≡ true
    by_first v e first rest = grind arith

none_of_length : {X : Type 0} (xs : List X) → nat_eq (length xs) 0 ≡ true → xs ≡ []
none_of_length [] e = refl
none_of_length (x ∷ xs) e = absurd (let n : length (x ∷ xs) ≡ 0 = grind (arith, e) in omega (arith, n))

free_serves_none : (v : Handler) → is_free v ≡ true → serving v ≡ []
free_serves_none v e = search rules

module _ (program : ProgramShape) (sound : IsSound program) (s : Core) (y : LaneHistory) (g : ℕ → HandlerLog) (k : CoreInvariant program s y g) where
  abbrev r : Played
  r = core_played program s

  -- the object as the run shows it
  abbrev shown : ℕ → HeldState
  shown h = held_now s h

  shown_is : (h : ℕ) → shown h ≡ now program (lined program sound) s y g k h
  shown_is h = ap held_or_none (object_found program (lined program sound) s y g k h)

  abbrev Busy : ℕ → Type 0
  Busy h = ahead (post s h) ≡ [] → ⊥

  abbrev x : ℕ → ObjectCourse
  x = line program sound y.block_record (on_way s) (λ h. (shown h).object) Busy (λ h. (shown h).journal)

  flows : (h : ℕ) → Flow (x h) (declared_states program h) (shown h).journal s.order × IsHonest (declared_states program h) (without_tickets (shown h).journal) × (replay (declared_states program h) (without_tickets (shown h).journal) ≡ (shown h).object)
  flows h =
      let f = goes program sound s y g k h in
      let whole : (shown h).journal ≡ f.0 = ap (λ (o : HeldState). o.journal) (shown_is h) ∙ f.1 in
      let object : (shown h).object ≡ (now program (lined program sound) s y g k h).object = ap (λ (o : HeldState). o.object) (shown_is h) in (
        subst (λ j. Flow (x h) (declared_states program h) j s.order) (sym whole)
            (subst (λ o. Flow (record { may = λ t. reserves program t h; parts = parts_of y.block_record h; done = done_of y.block_record; waits = on_way s h; busy = Busy h; present = o }) (declared_states program h) f.0 s.order) (sym object) f.2),
        subst (λ j. IsHonest (declared_states program h) (without_tickets j)) (sym whole) f.3,
        ap (λ j. replay (declared_states program h) (without_tickets j)) whole ∙ (f.4 ∙ sym object),
      )

  journal_is : (h : ℕ) → h < length program.objects → journal_of r h ≡ (shown h).journal
  journal_is h inside = get_or-map-range_with_len (λ h. (shown h).journal) 0 (length program.objects) h h [] inside (omega arith)

  state_is : (h : ℕ) → h < length program.objects → state_of r h ≡ (shown h).object
  state_is h inside = get_or-map-range_with_len (λ h. (shown h).object) 0 (length program.objects) h h no_state inside (omega arith)

  -- an object that the program doesn't have shows no journal
  no_journal : (h : ℕ) → length program.objects ≤ h → journal_of r h ≡ []
  no_journal h out = search (rules, length-map, length-range_with_len, get_or_past)

  -- an ended block has nothing left
  ended_done : (t : Ticket) → has_ended (s.client t.client) t.index ≡ true → IsDone (y.block_record t).rest
  ended_done t e = by_test (nat_lt (suc t.index) (s.client t.client).begun) refl e
    where
      by_place : (pl : ClientStage) → PlaceOk program t (y.sent t) (y.got t) (s.client t.client) (y.block_record t) pl → is_between pl ≡ true → IsDone (y.block_record t).rest
      by_place v ok b = search (rules, ok)

      by_test : (b : Bool) → nat_lt (suc t.index) (s.client t.client).begun ≡ b → (b || (nat_eq (suc t.index) (s.client t.client).begun && is_between (s.client t.client).stage)) ≡ true → IsDone (y.block_record t).rest
      by_test true less e =
          let lt : suc t.index < (s.client t.client).begun = grind (arith, less) in
          let many = k.counts t.client in
          let next : TicketOk program y (ticket t.client (suc t.index)) =
          each_among (TicketOk program y) (ticket t.client (suc t.index)) s.order k.tickets_ok
          (legal_among program (λ _. 0) s.order t.client (suc t.index) k.legal (omega arith) (omega (arith, lt, many))) in
          let b : (y.block_record t).rest ≡ tree.Done (y.block_record (ticket t.client (suc t.index))).entry = next.begins in
          subst IsDone (sym b) tt
      by_test false less e =
          let both = and_cases (nat_eq (suc t.index) (s.client t.client).begun) (is_between (s.client t.client).stage) e in
          let last : (s.client t.client).begun ≡ suc t.index = (let b = both.0 in grind (arith, b)) in
          by_place (s.client t.client).stage (k.places t.client t.index last) both.1

  -- where an object shows an entry, it is one of the program
  written : (h : ℕ) (t : Ticket) (b : Bool) → nat_lt h (length program.objects) ≡ b → HasEntry t (journal_of r h) → journal_of r h ≡ (shown h).journal
  written h t v e has = grind (arith, journal_is, no_journal)

  -- a finished run has reserved each block
  every : is_finished program s ≡ true → (u : Ticket) → u.index < blocks_of program u.client → Among u s.order
  every e u some =
      let both = and_cases (all_of (is_done program s) (range_with_len 0 (length program.clients))) (all_of (is_idle program s) (range_with_len 0 (length program.objects))) e in
      let inside = no_block_beyond program u.client (omega (arith, some)) in
      let done = all_of_at (is_done program s) 0 (length program.clients) u.client both.0 (omega arith) (omega (arith, inside)) in
      let b = (and_cases (is_between (s.client u.client).stage) (nat_eq (s.client u.client).begun (blocks_of program u.client)) done).1 in
      let all_begun : (s.client u.client).begun ≡ blocks_of program u.client = grind (arith, b) in
      let many = k.counts u.client in
      legal_among program (λ _. 0) s.order u.client u.index k.legal (omega arith) (omega (arith, many, all_begun, some))

  -- and then no handler has a reservation before it
  none_left : is_finished program s ≡ true → (h : ℕ) → h < length program.objects → ahead (post s h) ≡ []
  none_left e h own =
      let both = and_cases (all_of (is_done program s) (range_with_len 0 (length program.clients))) (all_of (is_idle program s) (range_with_len 0 (length program.objects))) e in
      let here = all_of_at (is_idle program s) 0 (length program.objects) h both.1 (omega arith) (omega (arith, own)) in
      let lanes : Bool = all_of (λ c. nat_eq (length (s.down c h)) 0) (range_with_len 0 (length program.clients)) in
      let first = and_cases (is_free (s.handler h) && nat_eq (length (s.tickets h)) 0) lanes here in
      let second = and_cases (is_free (s.handler h)) (nat_eq (length (s.tickets h)) 0) first.0 in
      ap₂ (λ a b. a ++ b) (free_serves_none (s.handler h) second.0) (none_of_length (s.tickets h) second.1)

  run : IsRun program sound r y.block_record (on_way s) (λ h. (shown h).object) Busy (λ h. (shown h).journal)
  run = record {
    fits = record {
      ended = length-map s.order (λ (t : Ticket). has_ended (s.client t.client) t.index);
      entries = length-map s.order s.entry;
      traces = length-map s.order s.trace;
      sync_counts = length-map s.order s.sync_counts;
      journals = length-map (range_with_len 0 (length program.objects)) (λ h. (shown h).journal) ∙ length-range_with_len 0 (length program.objects);
      states = length-map (range_with_len 0 (length program.objects)) (λ h. (shown h).object) ∙ length-range_with_len 0 (length program.objects);
    };
    legal = k.legal;
    block_records = each_map (λ t (ok : TicketOk program y t). ok.block_record.path) s.order k.tickets_ok;
    begins = each_map (λ t (ok : TicketOk program y t). ok.begins) s.order k.tickets_ok;
    flows = λ h. (flows h).0;
    honest = λ h own. (flows h).1;
    replayed = λ h own. (flows h).2;
    entry = λ i inside. get_or-map s.entry s.order i (ticket 0 0) [] inside ∙ sym (k.entry (ticket_at r i));
    trace = λ i inside. get_or-map s.trace s.order i (ticket 0 0) [] inside ∙ sym (k.trace (ticket_at r i));
    ended = λ i inside e. ended_done (ticket_at r i) (sym (get_or-map (λ (t : Ticket). has_ended (s.client t.client) t.index) s.order i (ticket 0 0) false inside) ∙ e);
    journals = journal_is;
    written = λ h t has. written h t (nat_lt h (length program.objects)) refl has;
    states = state_is;
    all = every;
    idle = λ e h own busy. busy (none_left e h own);
  }

  pub isolated : IsIsolated program r (on_way s)
  isolated = run_isolated program sound r y.block_record (on_way s) (λ h. (shown h).object) Busy (λ h. (shown h).journal) run

-- after every list of actors
pub core_isolated : CoreRunsAreIsolated
core_isolated program sound mode code codes size actors =
    let r = run_kept program sound mode code codes size actors in
    isolated program sound (core_plays code size actors (core_begin program)) r.0 r.1 r.2
