-- Under the plain rules each block has sent one synchronisation for each query of its trace, and one more while its
-- client waits for a reply; their sum is what the run shows. The law `plain_syncs_are_counted` is this, and `play`
-- promises it. A legal order has each client's tickets once each, so the clients' counts are summed along the order, by
-- cases on how a client stands.
use Rattle.std.proofs.Common.{◌≡◌, ◌<◌, ℕ, zero, suc, ◌+◌, ◌-◌, ◌==◌, ◌&&◌, nat_lt, nat_eq, Bool, true, false, if◌then◌else◌, List, [], ◌∷◌, length, get_or, map, refl, sym, ap, ◌∙◌, subst, inl, inr, arith, rules}
use Rattle.qs_played.proofs.Names.{sum_by, AllByRecursion, range_with_len, get_or-map, length-map, sum_by-cons, Event, Ticket, Request, apart_eqb, eqb_apart, eqb_self, AllByRecursion-get_or, reserves, AsksOnly, Leads, block_tree, ProgramShape, blocks_of, text_of, IsLegal, value_of, IsSound, Among, IsBlockRecord, each_map, blocks_ask_only, object_of, syncs_of as syncs_of_row, syncs_for, command_asks_none, query_counts, ended_of, ticket_at, trace_of, ticket, queries_in, AreSent, counts_at, syncs_at, Played}
use Rattle.qs_meaning.specs.audit.Interaction.{Interaction, Done, Call, Query}
use Rattle.qs_syncset.specs.SyncCounts.{asks, queries}
use Rattle.qs_played.proofs.ReservedObjects.{listed_inside, reserved_inside}
use Rattle.qs_played.proofs.SyncTallies.{sent_of, total_for}
use Rattle.qs_played.proofs.SyncLists.{sum_of, total_of, legal_blocks, sum_add, sum_at, sum_inside, sum_legal, sum_of_client, sum_one, sum_zero}
use Rattle.qs_plain_laws.proofs.Names.{each_among, counts_after, legal_among, no_block_beyond}
use Rattle.qs_plain_laws.specs.audit.Plain.{Plain, Client, begin, begun_blocks, client_at, no_client}
use Rattle.qs_plain_laws.specs.audit.PlainSchedule.{counts_of, ended_at, has_ended, is_out, played_of, plays, syncs_of, trace_at, waits}
use Rattle.qs_plain_laws.specs.PlainSyncSums.{AreQueriesCounted, PlainSyncsAreCounted, waiting}
use Rattle.qs_plain_laws.proofs.ServedRunMoves.{asks_left}
use Rattle.qs_plain_laws.proofs.ServedRuns.{ServedRun, IsServedRun}
use Rattle.qs_plain_laws.proofs.PlainPreserved.{RunInvariant, run_kept, sight_of}
use Rattle.qs_plain_laws.proofs.PlainTallies.{asked_of}
use Rattle.qs_plain_laws.proofs.RunViews.{RunView, PlainStage, Awaits, stage_of}
use Rattle.qs_plain_laws.proofs.Simulation.{Simulates, StandsAt}
use Rattle.qs_plain_laws.specs.audit.Plain as plain

-- the objects of a trace along a tree are the tree's
objects_among : (may : ℕ → Bool) (tree : Interaction) (es : List Event) (rest : Interaction) → AsksOnly may tree → Leads tree es rest
    → AllByRecursion (λ (e : Event). may e.request.object ≡ true) es
objects_among may tree [] rest asks leads = tt
objects_among may (Done l) (e ∷ es) rest asks leads = absurd leads
objects_among may (Call r next) (e ∷ es) rest asks leads =
    (ap (λ (e : Event). may e.request.object) leads.0 ∙ asks.1, objects_among may next es rest asks.2 leads.1)
objects_among may (Query r next) (e ∷ es) rest asks leads =
    (ap (λ (r : Request). may r.object) leads.0 ∙ asks.1, objects_among may (next (value_of e.reply)) es rest (asks.2 (value_of e.reply)) leads.1)

-- one of the first m numbers
one_of_range : (k m : ℕ) → k < m → sum_by (λ h. if k == h then 1 else 0) (range_with_len 0 m) ≡ 1
one_of_range k m inside =
    let none = sum_zero (λ (h : ℕ). 0) (λ h. refl) (range_with_len 0 m) in
    let one = sum_one (λ h. if k == h then 1 else 0) (λ h. 0) k 1 m (rw (eqb_self k) refl) (λ i out. rw out refl) inside in
    omega (arith, none, one)

-- the queries of a trace, object by object
queries_by_object : (m : ℕ) (es : List Event) → AllByRecursion (λ (e : Event). e.request.object < m) es
    → sum_by (λ h. queries h es) (range_with_len 0 m) ≡ queries_in es
queries_by_object m [] inside = sum_zero (λ h. queries h []) (λ h. refl) (range_with_len 0 m)
queries_by_object m (e ∷ es) inside = by_event (asks e) refl (queries_by_object m es inside.1)
  where
    all : queries_in (e ∷ es) ≡ (if asks e then 1 else 0) + queries_in es
    all = sum_by-cons (λ (e : Event). if asks e then 1 else 0) e es

    by_event : (b : Bool) → asks e ≡ b → sum_by (λ h. queries h es) (range_with_len 0 m) ≡ queries_in es
        → sum_by (λ h. queries h (e ∷ es)) (range_with_len 0 m) ≡ queries_in (e ∷ es)
    by_event true is rest =
        let each = sum_inside (λ h. queries h (e ∷ es)) (λ h. (if e.request.object == h then 1 else 0) + queries h es) 0 m
        (λ h low high. query_counts h e es is) in
        let both = sum_add (λ h. if e.request.object == h then 1 else 0) (λ h. queries h es) (range_with_len 0 m) in
        let one = one_of_range e.request.object m inside.0 in
        let whole : queries_in (e ∷ es) ≡ 1 + queries_in es = all ∙ ap (λ b. (if b then 1 else 0) + queries_in es) is in
        omega (arith, each, both, one, whole, rest)
    by_event false is rest =
        let each = sum_inside (λ h. queries h (e ∷ es)) (λ h. queries h es) 0 m (λ h low high. command_asks_none h e es is) in
        let whole : queries_in (e ∷ es) ≡ 0 + queries_in es = all ∙ ap (λ b. (if b then 1 else 0) + queries_in es) is in
        omega (arith, each, whole, rest)

module _ (p : ProgramShape) (sound : IsSound p) (s : Plain) (k : RunInvariant p sound s) where
  abbrev v : RunView
  v = sight_of s k.stance

  abbrev w : ServedRun
  w = k.kept.0

  good : IsServedRun p w
  good = k.kept.1

  sim : Simulates v w
  sim = k.kept.2

  abbrev r : Played
  r = played_of p s

  legal : IsLegal p s.order
  legal = subst (IsLegal p) sim.order good.legal

  counts : (c : ℕ) → counts_after (λ _. 0) s.order c ≡ begun_blocks (client_at s c)
  counts c = ap (λ ts. counts_after (λ _. 0) ts c) (sym sim.order) ∙ (good.counts c ∙ sim.booked c)

  -- in the block that its client is in, the query that it waits for
  abbrev waits_for : Ticket → ℕ → ℕ
  waits_for t h = if suc t.index == begun_blocks (client_at s t.client) then asked_of (k.stance t.client) h else 0

  abbrev sent_so_far : Ticket → ℕ → ℕ
  sent_so_far t h = waits_for t h + queries h (trace_at s t)

  -- each block that was begun stands in the order
  in_order : (c i : ℕ) → i < begun_blocks (client_at s c) → Among (ticket c i) w.order
  in_order c i less = grind (arith, less, legal_among)

  record_ok : (c i : ℕ) → i < begun_blocks (client_at s c) → IsBlockRecord p (ticket c i) (w.block_record (ticket c i))
  record_ok c i less = each_among (λ t. IsBlockRecord p t (w.block_record t)) (ticket c i) w.order good.block_records (in_order c i less)

  -- what a block asks is of objects of the program
  objects_inside : (c i : ℕ) → i < begun_blocks (client_at s c) → AllByRecursion (λ (e : Event). e.request.object < length p.objects) (trace_at s (ticket c i))
  objects_inside c i less =
      let t = ticket c i in
      subst (λ es. AllByRecursion (λ (e : Event). e.request.object < length p.objects) es) (sim.trace t)
      (each_map (λ (e : Event) m. reserved_inside p sound t e.request.object m) (w.block_record t).trace
      (objects_among (reserves p t) (block_tree p t (w.block_record t).entry) (w.block_record t).trace (w.block_record t).rest (blocks_ask_only p sound t (w.block_record t).entry)
      (record_ok c i less)))

  -- and so is what its client waits for
  asked_inside : (c n : ℕ) → begun_blocks (client_at s c) ≡ n → (g : PlainStage) → k.stance c ≡ g → sum_of p (asked_of g) ≡ waits (stage_of g)
  asked_inside c zero b (Awaits q next) at = search rules
  asked_inside c (suc i) b (Awaits q next) at =
      let t = ticket c i in
      let rest : (w.block_record t).rest ≡ Query q next =
      subst (λ n. StandsAt w.block_record c (Awaits q next) n) b (subst (λ g. StandsAt w.block_record c g (begun_blocks (client_at s c))) at (sim.stands c)) in
      let asking : AsksOnly (reserves p t) (Query q next) = subst (AsksOnly (reserves p t)) rest (asks_left p sound w t (record_ok c i (omega (arith, b)))) in
      one_of_range q.object (length p.objects) (reserved_inside p sound t q.object asking.1)
  asked_inside c n b _ at = sum_zero (λ h. 0) (λ h. refl) (range_with_len 0 (length p.objects))

  -- a client between blocks waits for nothing
  none_before : (c : ℕ) → begun_blocks (client_at s c) ≡ 0 → (g : PlainStage) → k.stance c ≡ g → waits (stage_of g) ≡ 0
  none_before c b v at = search rules

  -- what a block has asked
  block_sent : (c i : ℕ) → i < begun_blocks (client_at s c)
      → sum_of p (sent_so_far (ticket c i)) ≡ (if suc i == begun_blocks (client_at s c) then waits (stage_of (k.stance c)) else 0) + queries_in (trace_at s (ticket c i))
  block_sent c i less =
      let t = ticket c i in
      let both = sum_add (waits_for t) (λ h. queries h (trace_at s t)) (range_with_len 0 (length p.objects)) in
      let asked = by_case (suc i == begun_blocks (client_at s c)) in
      let past = queries_by_object (length p.objects) (trace_at s t) (objects_inside c i less) in
      omega (arith, both, asked, past)
    where
      by_case : (b : Bool) → sum_of p (λ h. if b then asked_of (k.stance c) h else 0) ≡ (if b then waits (stage_of (k.stance c)) else 0)
      by_case true = asked_inside c (begun_blocks (client_at s c)) refl (k.stance c) refl
      by_case false = sum_zero (λ h. 0) (λ h. refl) (range_with_len 0 (length p.objects))

  -- one more at the last number of a range
  at_last : (n x : ℕ) (f : ℕ → ℕ) → (n ≡ 0 → x ≡ 0) → sum_by (λ i. (if suc i == n then x else 0) + f i) (range_with_len 0 n) ≡ x + sum_by f (range_with_len 0 n)
  at_last zero x f none = let z = none refl in omega (arith, z)
  at_last (suc n) x f none =
      sum_one (λ i. (if suc i == suc n then x else 0) + f i) f n x (suc n) (rw (eqb_self (suc n)) refl)
      (λ i out. let other : (suc i == suc n) ≡ false = apart i out in rw other (omega arith)) (omega arith)
    where
      apart : (i : ℕ) → (n == i) ≡ false → (suc i == suc n) ≡ false
      apart i out = eqb_apart (suc i) (suc n) (λ same. apart_eqb n i out (let back : i ≡ n = omega (arith, same) in sym back))

  client_sent : (c : ℕ) → c < length p.clients → sum_of_client (λ t. sum_of p (sent_so_far t)) c 0 (begun_blocks (client_at s c)) ≡ syncs_of (client_at s c)
  client_sent c inside =
      let it = client_at s c in
      let n = begun_blocks it in
      let whole : n - 0 ≡ n = omega arith in
      let each = sum_inside (λ i. sum_of p (sent_so_far (ticket c i)))
      (λ i. (if suc i == n then waits (stage_of (k.stance c)) else 0) + queries_in (get_or it.traces i [])) 0 n
      (λ i low high. block_sent c i (omega (arith, high))) in
      let last = at_last n (waits (stage_of (k.stance c))) (λ i. queries_in (get_or it.traces i [])) (λ z. none_before c z (k.stance c) refl) in
      let listed : sum_by queries_in it.traces ≡ sum_by (λ i. queries_in (get_or it.traces i [])) (range_with_len 0 n) =
      sum_at queries_in [] it.traces ∙ ap (λ m. sum_by (λ i. queries_in (get_or it.traces i [])) (range_with_len 0 m)) (k.traces c) in
      let stage : waits it.stage ≡ waits (stage_of (k.stance c)) = ap waits (k.stages c inside) in
      ap (λ m. sum_by (λ i. sum_of p (sent_so_far (ticket c i))) (range_with_len 0 m)) whole ∙ omega (arith, each, last, listed, stage)

  all_sent : r.syncs ≡ total_of p sent_so_far s.order
  all_sent =
      let listed = sum_at syncs_of no_client s.clients in
      let each = sum_inside (λ c. sum_of_client (λ t. sum_of p (sent_so_far t)) c 0 (counts_after (λ _. 0) s.order c)) (λ c. syncs_of (client_at s c)) 0
      (length p.clients)
      (λ c low high. ap (sum_of_client (λ t. sum_of p (sent_so_far t)) c 0) (counts c) ∙ client_sent c (omega (arith, high))) in
      let ordered = sum_legal p (λ t. sum_of p (sent_so_far t)) (λ _. 0) s.order legal in
      let long : sum_by (λ c. syncs_of (client_at s c)) (range_with_len 0 (length s.clients)) ≡ sum_by (λ c. syncs_of (client_at s c))
      (range_with_len 0 (length p.clients)) =
      ap (λ m. sum_by (λ c. syncs_of (client_at s c)) (range_with_len 0 m)) k.clients in
      omega (arith, listed, each, ordered, long)

  -- a reservation: one more where its client waits in it
  ticket_sent : (t : Ticket) → t.client < length p.clients → AreSent (ended_at s t) (sent_so_far t) (λ h. queries h (trace_at s t))
  ticket_sent t inside = by_case (suc t.index == begun_blocks (client_at s t.client)) refl
    where
      it : Client
      it = client_at s t.client

      by_stance : suc t.index ≡ begun_blocks it → (g : PlainStage) → k.stance t.client ≡ g
          → AreSent (ended_at s t) (λ h. asked_of g h + queries h (trace_at s t)) (λ h. queries h (trace_at s t))
      by_stance last (Awaits q next) at =
          let less : nat_lt (suc t.index) (begun_blocks it) ≡ false = grind (arith, last) in
          let waiting_now : it.stage ≡ plain.waiting next = k.stages t.client inside ∙ ap stage_of at in
          let open_yet : has_ended it t.index ≡ false = rw less
          (ap (λ g. nat_eq (suc t.index) (begun_blocks it) && is_out g) waiting_now ∙ both (nat_eq (suc t.index) (begun_blocks it))) in
          inr (open_yet, q.object, λ h. refl)
        where
          both : (x : Bool) → (x && false) ≡ false
          both v = search rules
      by_stance last _ at = inl (λ h. omega arith)

      by_case : (b : Bool) → (suc t.index == begun_blocks it) ≡ b → AreSent (ended_at s t) (sent_so_far t) (λ h. queries h (trace_at s t))
      by_case true is =
          subst (λ b. AreSent (ended_at s t) (λ h. (if b then asked_of (k.stance t.client) h else 0) + queries h (trace_at s t))
          (λ h. queries h (trace_at s t))) (sym is)
          (by_stance (grind (arith, is)) (k.stance t.client) refl)
      by_case false out = inl (λ h. rw out (omega arith))

  -- the counts that the clients keep say this
  module _ (i : ℕ) (inside : i < length s.order) where
    abbrev t : Ticket
    t = ticket_at r i

    own : t.index < blocks_of p t.client
    own = AllByRecursion-get_or (λ (t : Ticket). t.index < blocks_of p t.client) s.order i (ticket 0 0) (legal_blocks p (λ _. 0) s.order legal) inside

    less : t.index < begun_blocks (client_at s t.client)
    less = grind (arith, AllByRecursion-get_or)

    counts_are : counts_at r i ≡ counts_of s t
    counts_are = get_or-map (counts_of s) s.order i (ticket 0 0) [] inside

    numbers : (h : ℕ) → sent_so_far t h ≡ syncs_at r i h
    numbers h = sym (ap (λ xs. syncs_for xs h) counts_are ∙ (k.tallies t.client).numbers t.index less h)

    place_listed : map object_of (counts_at r i) ≡ (text_of p t).reserved
    place_listed = ap (map object_of) counts_are ∙ (k.tallies t.client).objects t.index less

    place_sent : AreSent (ended_of r i) (syncs_at r i) (λ h. queries h (trace_of r i))
    place_sent =
        sent_of (ended_of r i) (sent_so_far t) (syncs_at r i) (λ h. queries h (trace_of r i)) numbers
        (subst (λ es. AreSent (ended_of r i) (sent_so_far t) (λ h. queries h es)) (sym (get_or-map (trace_at s) s.order i (ticket 0 0) [] inside))
        (subst (λ b. AreSent b (sent_so_far t) (λ h. queries h (trace_at s t))) (sym (get_or-map (ended_at s) s.order i (ticket 0 0) false inside))
        (ticket_sent t (no_block_beyond p t.client (let some = own in omega (arith, some))))))

    -- over all objects, one more exactly where its client waits in it
    place_more : syncs_of_row (counts_at r i) ≡ waiting s t + queries_in (trace_of r i)
    place_more =
        let stage = k.stages t.client (no_block_beyond p t.client (let some = own in omega (arith, some))) in
        total_for (length p.objects) (counts_at r i) (subst (AllByRecursion (λ h. h < length p.objects)) (sym place_listed) (listed_inside p sound t))
        ∙ (sum_inside (syncs_at r i) (sent_so_far t) 0 (length p.objects) (λ h low high. sym (numbers h))
        ∙ (block_sent t.client t.index less
        ∙ (ap (λ g. (if suc t.index == begun_blocks (client_at s t.client) then waits g else 0) + queries_in (trace_at s t)) (sym stage)
        ∙ ap (λ es. waiting s t + queries_in es) (sym (get_or-map (trace_at s) s.order i (ticket 0 0) [] inside)))))

  -- all counts together
  all_counts : sum_by syncs_of_row r.sync_counts ≡ total_of p sent_so_far s.order
  all_counts =
      let listed = sum_at syncs_of_row [] r.sync_counts in
      let many = length-map s.order (counts_of s) in
      let tickets = sum_at (λ t. sum_of p (sent_so_far t)) (ticket 0 0) s.order in
      let each = sum_inside (λ i. syncs_of_row (counts_at r i)) (λ i. sum_of p (sent_so_far (ticket_at r i))) 0 (length s.order) (λ i low high.
      let inside : i < length s.order = omega (arith, high) in
      total_for (length p.objects) (counts_at r i) (subst (AllByRecursion (λ h. h < length p.objects)) (sym (place_listed i inside)) (listed_inside p sound (ticket_at r i)))
      ∙ sum_inside (syncs_at r i) (sent_so_far (ticket_at r i)) 0 (length p.objects) (λ h low high. sym (numbers i inside h))) in
      listed ∙ (ap (λ m. sum_by (λ i. syncs_of_row (counts_at r i)) (range_with_len 0 m)) many ∙ (each ∙ sym tickets))

-- after every list of actors
pub plain_syncs_counted : PlainSyncsAreCounted
unfolding AreQueriesCounted
plain_syncs_counted p sound actors =
    let s = plays p actors (begin p) in
    let k = run_kept p sound actors in
    record {
      all = all_sent p sound s k ∙ sym (all_counts p sound s k);
      each = λ i inside. record { listed = place_listed p sound s k i inside; each = place_sent p sound s k i inside; more = place_more p sound s k i inside };
    }
