-- What a client stores of all its blocks, and what contracts see of those that were begun and of those to come: an
-- event, a query or a block more changes both in step.
use Rattle.std.proofs.Common.{◌≡◌, ◌<◌, ◌≤◌, ℕ, zero, suc, ◌+◌, ◌-◌, List, [], ◌∷◌, ◌++◌, drop, drop-cons, inl, inr, get_or, get_or-drop, get_or-set_same, get_or-set_other, get_or-take, length, length-set, length-take-le, map, refl, set, sym, ap, ◌∙◌, subst, take, arith, ℤ, zero-add, rules}
use Rattle.qs_played.proofs.Names.{take-set-lt, cases_lt, get_or-eq_default, drop-set-lt, get_or-map, length-append, length-drop, length-map, take_more, Event, apart_eqb, num_cases, fresh_rows, no_syncs, with_sync, SyncCount, IsSound, block_load-whole}
use Rattle.qs_plain.proofs.Names.{AreEmptyAfter, TraceState, empty_trace, events_of, with_last_event, noted_at, trace_at, AreRowsOf, AreStored, IsClient, IsReady, client_from, client_of_state, begun_with, after_moves, Frame, places_of, rest, Stage, AreQueues, PreparedState, reserved_lists, prepared_of, rooms_of, QueueState, counted_in, last_of, no_trace, noted_in}
use Rattle.qs_program.specs.audit.Program.{BlockShape, ProgramShape, block_at, block_load, blocks_of, client_at, no_block}
use Rattle.qs_plain.specs.declared.client.stage.Stage.TheVariants as stage

abbrev Queues : Type 0
Queues = List (ℕ × QueueState)

-- no block
abbrev pub absent_block : PreparedState
absent_block = record { trace = no_trace; counts = []; queues = [] }

pub length_prepared : (ts : List TraceState) (cs : List (List SyncCount)) (qs : List Queues) → length ts ≡ length qs → length cs ≡ length qs
    → length (prepared_of ts cs qs) ≡ length qs
length_prepared ts cs [] traces counts = refl
length_prepared [] cs (q ∷ qs) traces counts = absurd (omega (arith, traces))
length_prepared (t ∷ ts) [] (q ∷ qs) traces counts = absurd (omega (arith, counts))
length_prepared (t ∷ ts) (c ∷ cs) (q ∷ qs) traces counts = ap suc (length_prepared ts cs qs (omega (arith, traces)) (omega (arith, counts)))

pub prepared_at : (ts : List TraceState) (cs : List (List SyncCount)) (qs : List Queues) (i : ℕ) (x : PreparedState) → length ts ≡ length qs → length cs ≡ length qs
    → i < length qs
    → get_or (prepared_of ts cs qs) i x ≡ record { trace = get_or ts i no_trace; counts = get_or cs i []; queues = get_or qs i [] }
prepared_at ts cs [] i x traces counts inside = absurd (omega (arith, inside))
prepared_at [] cs (q ∷ qs) i x traces counts inside = absurd (omega (arith, traces))
prepared_at (t ∷ ts) [] (q ∷ qs) i x traces counts inside = absurd (omega (arith, counts))
prepared_at (t ∷ ts) (c ∷ cs) (q ∷ qs) zero x traces counts inside = refl
prepared_at (t ∷ ts) (c ∷ cs) (q ∷ qs) (suc i) x traces counts inside = grind (arith, prepared_at ts cs qs i x (omega (arith, traces)) (omega (arith, counts)) (omega (arith, inside)))

module _ (n : ℕ) (ts : List TraceState) (some : 0 < n) (long : n ≤ length ts) where
  short : length (take n ts) ≡ n
  short = length-take-le n ts long

  -- the last trace of those that were begun
  pub last_begun : last_of (take n ts) ≡ trace_at ts (n - 1)
  last_begun = ap (λ m. get_or (take n ts) (m - 1) no_trace) short ∙ get_or-take n ts (n - 1) no_trace (omega (arith, some))

  pub noted_begun : (e : Event) → take n (noted_at ts (n - 1) e) ≡ noted_in (take n ts) e
  noted_begun e = grind (arith, take-set-lt, set, take, last_begun, short)

  pub noted_later : (e : Event) → drop n (noted_at ts (n - 1) e) ≡ drop n ts
  noted_later e = drop-set-lt n ts (n - 1) (with_last_event (trace_at ts (n - 1)) e) (omega (arith, some))

module _ (n : ℕ) (cs : List (List SyncCount)) (some : 0 < n) (long : n ≤ length cs) (h : ℕ) where
  more : List SyncCount
  more = with_sync h (get_or cs (n - 1) [])

  pub counted_begun : take n (set cs (n - 1) (with_sync h (get_or cs (n - 1) []))) ≡ counted_in (take n cs) h
  counted_begun = grind (arith, short, length-take-le, take-set-lt, set, take, get_or-take)

  pub counted_later : drop n (set cs (n - 1) (with_sync h (get_or cs (n - 1) []))) ≡ drop n cs
  counted_later = drop-set-lt n cs (n - 1) (with_sync h (get_or cs (n - 1) [])) (omega (arith, some))

-- what is stored stays so
pub stored_noted : (n : ℕ) (ts : List TraceState) (cs : List (List SyncCount)) (later : ℕ) (e : Event) → AreStored n ts cs later → 0 < n
    → 0 < (trace_at ts (n - 1)).room → AreStored n (noted_at ts (n - 1) e) cs later
stored_noted n ts cs later e is some room = grind (arith, length-set, get_or-set_same, length-append, get_or-set_other, apart_eqb, num_cases)

pub stored_counted : (n : ℕ) (ts : List TraceState) (cs : List (List SyncCount)) (later h : ℕ) → AreStored n ts cs later
    → AreStored n ts (set cs (n - 1) (with_sync h (get_or cs (n - 1) []))) later
stored_counted n ts cs later h is = search (rules, length-set)

-- a block more was begun
pub stored_begun : (n m later : ℕ) (ts : List TraceState) (cs : List (List SyncCount)) → AreStored n ts cs (suc later) → m ≡ n + 1 → AreStored m ts cs later
stored_begun n m later ts cs is next = grind arith

-- where no block to come has events, none after the last that was begun has any
pub empty_later : (n : ℕ) (ts : List TraceState) (cs : List (List SyncCount)) (qs : List Queues) → AreStored n ts cs (length qs) → 0 < n
    → ((i : ℕ) (x : PreparedState) → i < length qs → (get_or (prepared_of (drop n ts) (drop n cs) qs) i x).trace.events ≡ []) → AreEmptyAfter ts (n - 1)
empty_later n ts cs qs is some none j after =
    let i = j - n in
    let place : j ≡ n + i = omega (arith, some, after) in
    let traces = is.all_traces in
    let counts = is.all_counts in
    let left = length-drop n ts in
    let right = length-drop n cs in
    ap (λ m. (trace_at ts m).events) place ∙ elim (cases_lt i (length qs)) [
      | inl below ↦
          let it = prepared_at (drop n ts) (drop n cs) qs i absent_block (omega (arith, left, traces)) (omega (arith, right, counts)) below in
          ap (λ (t : TraceState). t.events) (sym (get_or-drop n ts i no_trace)) ∙ (ap (λ (x : PreparedState). x.trace.events) (sym it) ∙ none i absent_block below)
      | inr beyond ↦ ap (λ (t : TraceState). t.events) (get_or-eq_default ts no_trace {n = n + i} (omega (arith, traces, beyond)))
    ]

-- what is prepared for the next block comes out
pub next_prepared : (n : ℕ) (ts : List TraceState) (cs : List (List SyncCount)) (q : Queues) (qs : List Queues) → n < length ts → n < length cs
    → prepared_of (drop n ts) (drop n cs) (q ∷ qs)
    ≡ record { trace = get_or ts n no_trace; counts = get_or cs n []; queues = q } ∷ prepared_of (drop (n + 1) ts) (drop (n + 1) cs) qs
next_prepared n ts cs q qs traces counts = grind (arith, drop-cons, drop)

-- how much is prepared
pub many_prepared : (n : ℕ) (ts : List TraceState) (cs : List (List SyncCount)) (qs : List Queues) → AreStored n ts cs (length qs)
    → length (prepared_of (drop n ts) (drop n cs) qs) ≡ length qs
many_prepared n ts cs qs is = grind (arith, length-drop, length_prepared, drop)

-- how contracts see a client after an event, a query or a block more
module _ (p : ProgramShape) (c : ℕ) (s : Stage) (l : List ℤ) (fs : List Frame) (depth : ℕ) (es : List (List ℤ)) (ts : List TraceState) (cs : List (List SyncCount)) where
  pub moved_noted : (qs : List Queues) → AreStored (length es) ts cs (length qs) → 0 < length es → (now : Stage) (l' : List ℤ) (fs' : List Frame) (depth' : ℕ) (ts' : List TraceState) (e : Event)
      → depth' ≡ depth → ts' ≡ noted_at ts (length es - 1) e
      → client_from p c now l' fs' depth' es ts' cs qs
      ≡ after_moves (client_from p c s l fs depth es ts cs qs) now l' fs' (noted_in (take (length es) ts) e) (take (length es) cs)
  moved_noted qs is some now l' fs' depth' ts' e same v = grind (arith, take, noted_begun, drop, noted_later)

  pub moved_counted : (qs : List Queues) → AreStored (length es) ts cs (length qs) → 0 < length es → (now : Stage) (l' : List ℤ) (fs' : List Frame) (depth' : ℕ) (cs' : List (List SyncCount)) (h : ℕ)
      → depth' ≡ depth → cs' ≡ set cs (length es - 1) (with_sync h (get_or cs (length es - 1) []))
      → client_from p c now l' fs' depth' es ts cs' qs
      ≡ after_moves (client_from p c s l fs depth es ts cs qs) now l' fs' (take (length es) ts) (counted_in (take (length es) cs) h)
  moved_counted qs is some now l' fs' depth' cs' h same counted = grind (arith, take, counted_begun, drop, counted_later)

  abbrev pub first_prepared : Queues → PreparedState
  first_prepared q = record { trace = get_or ts (length es) no_trace; counts = get_or cs (length es) []; queues = q }

  abbrev pub later_prepared : List Queues → List PreparedState
  later_prepared qs = prepared_of (drop (length es + 1) ts) (drop (length es + 1) cs) qs

  pub begun_first : (q : Queues) (qs qs' : List Queues) → qs ≡ q ∷ qs' → AreStored (length es) ts cs (length qs)
      → (client_from p c s l fs depth es ts cs qs).prepared ≡ first_prepared q ∷ later_prepared qs'
  begun_first q qs qs' first is = grind (arith, more, drop, next_prepared)

  pub moved_begun : (q : Queues) (qs qs' : List Queues) → qs ≡ q ∷ qs' → AreStored (length es) ts cs (length qs) → (fs' : List Frame) (depth' : ℕ) (es' : List (List ℤ))
      → depth' ≡ depth → fs' ≡ fs ++ rest (block_at p c (length es)).body ∷ [] → es' ≡ es ++ l ∷ []
      → client_from p c stage.Within l fs' depth' es' ts cs qs' ≡ begun_with (client_from p c s l fs depth es ts cs qs) (first_prepared q) (later_prepared qs')
  moved_begun q qs qs' first is fs' depth' es' same frames entries = grind (arith, more, length-append, take, take_more, drop)

-- before the first block
module _ (p : ProgramShape) (c : ℕ) (sound : IsSound p) (inside : c < length p.clients) where
  pub length_fresh : length (map empty_trace (rooms_of p c)) ≡ blocks_of p c
  length_fresh = length-map (rooms_of p c) empty_trace ∙ length-map (client_at p c).blocks block_load

  pub length_none : length (fresh_rows (reserved_lists p c)) ≡ blocks_of p c
  length_none = length-map (reserved_lists p c) no_syncs ∙ length-map (client_at p c).blocks (λ (b : BlockShape). b.reserved)

  trace_fresh : (k : ℕ) → k < blocks_of p c → get_or (map empty_trace (rooms_of p c)) k no_trace ≡ empty_trace (block_load (block_at p c k))
  trace_fresh k below =
      let long : length (rooms_of p c) ≡ blocks_of p c = length-map (client_at p c).blocks block_load in
      get_or-map empty_trace (rooms_of p c) k 0 no_trace (omega (arith, below, long)) ∙ ap empty_trace (get_or-map block_load (client_at p c).blocks k no_block 0 below)

  counts_fresh : (k : ℕ) → k < blocks_of p c → get_or (fresh_rows (reserved_lists p c)) k [] ≡ no_syncs (block_at p c k).reserved
  counts_fresh k below =
      let long : length (reserved_lists p c) ≡ blocks_of p c = length-map (client_at p c).blocks (λ (b : BlockShape). b.reserved) in
      get_or-map no_syncs (reserved_lists p c) k [] [] (omega (arith, below, long)) ∙ ap no_syncs (get_or-map (λ (b : BlockShape). b.reserved) (client_at p c).blocks k no_block [] below)

  pub stored_fresh : (qs : List Queues) → length qs ≡ blocks_of p c → AreStored 0 (map empty_trace (rooms_of p c)) (fresh_rows (reserved_lists p c)) (length qs)
  stored_fresh qs many = grind (arith, length_fresh, length_none, sound, block_load-whole, trace_fresh, get_or-eq_default, map)

  pub client_fresh : (l : List ℤ) (depth : ℕ) (qs : List Queues) → length qs ≡ blocks_of p c → ((j : ℕ) → j < blocks_of p c → places_of (rest (block_at p c j).body) ≤ depth)
      → ((j : ℕ) (q : Queues) → j < blocks_of p c → AreQueues c j (block_at p c j) (get_or qs j q))
      → IsClient (client_from p c stage.Out l [] depth [] (map empty_trace (rooms_of p c)) (fresh_rows (reserved_lists p c)) qs)
  client_fresh l depth qs many fits each =
      let traces = length_fresh in
      let counts = length_none in
      let long = length_prepared (map empty_trace (rooms_of p c)) (fresh_rows (reserved_lists p c)) qs (omega (arith, traces, many)) (omega (arith, counts, many)) in
      record {
        number = inside;
        begun = omega (arith, long, many);
        traces = refl;
        counts = refl;
        prepared = λ i x below.
            let lt : i < blocks_of p c = omega (arith, below, long, many) in
            let it = prepared_at (map empty_trace (rooms_of p c)) (fresh_rows (reserved_lists p c)) qs i x (omega (arith, traces, many)) (omega (arith, counts, many)) (omega (arith, lt, many)) in
            let here = each i [] lt in
            let ready : IsReady c i depth (block_at p c i) (record { trace = get_or (map empty_trace (rooms_of p c)) i no_trace; counts = get_or (fresh_rows (reserved_lists p c)) i []; queues = get_or qs i [] }) =
            record {
              frames = fits i lt;
              stocked = grind (arith, trace_fresh, counts_fresh, here);
            } in
            subst (λ n. IsReady c n depth (block_at p c n) (get_or (prepared_of (map empty_trace (rooms_of p c)) (fresh_rows (reserved_lists p c)) qs) i x)) (sym (zero-add i))
            (subst (IsReady c i depth (block_at p c i)) (sym it) ready);
        staged = refl;
      }

-- what a client hands out
events_taken : (n : ℕ) (ts : List TraceState) → take n (events_of ts) ≡ events_of (take n ts)
events_taken (suc n) (t ∷ ts) = ap (λ rest. t.events ∷ rest) (events_taken n ts)
events_taken _ _ = refl

pub rows_are : (p : ProgramShape) (c : ℕ) (s : Stage) (l : List ℤ) (fs : List Frame) (depth : ℕ) (es : List (List ℤ)) (ts : List TraceState) (cs : List (List SyncCount)) (qs : List Queues)
    → AreStored (length es) ts cs (length qs) → AreRowsOf (record { traces = events_of ts; entries = es; counts = cs }) (client_of_state (client_from p c s l fs depth es ts cs qs))
rows_are p c s l fs depth es ts cs qs is =
    let traces = is.all_traces in
    let counts = is.all_counts in
    let many = length-map ts (λ (t : TraceState). t.events) in
    record {
      entries = refl;
      traces = events_taken (length es) ts;
      counts = refl;
      traced = omega (arith, traces, many);
      counted = omega (arith, counts);
    }
