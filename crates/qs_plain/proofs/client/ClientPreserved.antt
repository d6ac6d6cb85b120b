-- After a command, a query, a reply, the end of a block or the beginning of the next one, a client of the code still
-- keeps what its type asks of it (`IsClient`). The contracts of `begin`, `ask` and `reply` need it. A request takes one
-- from the load that is left of its block, so the trace has room for its event; all other parts stay as they were.
use Rattle.std.proofs.Common.{◌≡◌, ◌<◌, ◌≤◌, ℕ, suc, ◌+◌, ◌-◌, ◌==◌, if◌then◌else◌, Bool, true, false, ◌||◌, List, [], ◌∷◌, ◌++◌, length, get_or, set, sum_by, refl, ap, sym, subst, ◌∙◌, arith, ℤ, length-set, get_or-set_same, add-zero, rules}
use Rattle.qs_played.proofs.Names.{list_any, sum_by-cons, length-append, get_or-append_seam, Event, BlockShape, blocks_of, block_load, is_in, IsSound, IsSoundBody, load_of, sound_block, no_syncs, with_sync, AreFew, SyncCount}
use Rattle.qs_plain.proofs.Names.{AreSound, ClientState, IsClient, IsStaged, IsWithin, IsReady, current_block, current_counts, current_trace, block_of_state, PreparedState, Frame, rest, load_left, counted_in, noted_in, last_of, no_trace, few_in, few_more, few_none, TraceState, Stage}
use Rattle.qs_plain.specs.declared.client.stage.Stage.TheVariants as stage

sum_by-mono : (f g : ℕ → ℕ) (xs : List ℕ) → ((k : ℕ) → f k ≤ g k) → sum_by f xs ≤ sum_by g xs
sum_by-mono f g [] less = omega arith
sum_by-mono f g (x ∷ xs) less = rw (sum_by-cons f x xs, sum_by-cons g x xs) (omega (arith, less x, sum_by-mono f g xs less))

-- one request on an object of the list takes one from the sum
pub sum_by-asked : (f g : ℕ → ℕ) (h : ℕ) (xs : List ℕ) → is_in xs h ≡ true → ((k : ℕ) → (if h == k then 1 else 0) + f k ≤ g k) → sum_by f xs + 1 ≤ sum_by g xs
sum_by-asked f g h [] member less = cc
sum_by-asked f g h (x ∷ xs) member less = rw (sum_by-cons f x xs, sum_by-cons g x xs) (by_test (x == h) (λ e. e) member (sum_by-asked f g h xs))
  where
    weaker : (k : ℕ) → f k ≤ g k
    weaker k = omega (arith, less k)

    by_test : (b : Bool) → (b ≡ true → (x == h) ≡ true) → (b || list_any (λ y. y == h) xs) ≡ true
        → (is_in xs h ≡ true → ((k : ℕ) → (if h == k then 1 else 0) + f k ≤ g k) → sum_by f xs + 1 ≤ sum_by g xs) → (f x + sum_by f xs) + 1 ≤ g x + sum_by g xs
    by_test true same m later =
        let e : x ≡ h = grind (arith, same refl) in
        let self : (h == h) ≡ true = grind arith in
        let here : 1 + f h ≤ g h = rw self at (less h) in
        rw e (omega (arith, here, sum_by-mono f g xs weaker))
    by_test false same m later = omega (arith, weaker x, later m less)

length-noted : (ts : List TraceState) (e : Event) → length (noted_in ts e) ≡ length ts
length-noted ts e = length-set _ _ _

last-noted : (ts : List TraceState) (e : Event) → 0 < length ts → (last_of (noted_in ts e)).room ≡ (last_of ts).room - 1
last-noted ts e some = grind (arith, length-noted, get_or-set_same)

module _ {d : ClientState} (kept : IsClient d) where
  staged_at : (s : Stage) → d.stage ≡ s → IsStaged d s
  staged_at s is = subst (IsStaged d) is kept.staged

  pub within_of : d.stage ≡ stage.Within → IsWithin d 0
  within_of is = staged_at stage.Within is

  pub waiting_of : (x : ℕ) → d.stage ≡ stage.Waiting x → IsWithin d 1
  waiting_of x is = staged_at (stage.Waiting x) is

  -- the trace of the current block is the last one
  pub last_is_current : last_of d.traces ≡ current_trace d
  last_is_current = ap (λ n. get_or d.traces (n - 1) no_trace) kept.traces

  abbrev pub at : Stage → List ℤ → List Frame → ℕ → List TraceState → List (List SyncCount) → ClientState
  at s l fs depth ts cs = record d { stage = s; locals = l; frames = fs; depth = depth; traces = ts; counts = cs }

  within_at : (fs : List Frame) (s : Stage) (l : List ℤ) (depth : ℕ) (ts : List TraceState) (cs : List (List SyncCount)) (waited : ℕ) → 0 < length d.entries → AreSound d.program.objects (current_block d).reserved fs
      → sum_by (load_left fs) (current_block d).reserved + waited ≤ (get_or ts (length d.entries - 1) no_trace).room
      → AreFew (suc (length (get_or ts (length d.entries - 1) no_trace).events + waited)) (get_or cs (length d.entries - 1) []) → IsWithin (at s l fs depth ts cs) waited
  within_at fs s l depth ts cs waited some sound room few = record { some = some; sound = sound; room = room; few = few }

  same_place : (ts : List TraceState) (e : Event) → ts ≡ noted_in d.traces e → get_or ts (length d.entries - 1) no_trace ≡ last_of (noted_in d.traces e)
  same_place ts e is = search (rules, kept, length-noted)

  -- the room after an event
  room_noted : (ts : List TraceState) (e : Event) → 0 < length d.entries → ts ≡ noted_in d.traces e → (get_or ts (length d.entries - 1) no_trace).room ≡ (current_trace d).room - 1
  room_noted ts e some is = search (rules, same_place, last-noted, kept, last_is_current)

  -- the events after one more
  events_noted : (ts : List TraceState) (e : Event) → 0 < length d.entries → ts ≡ noted_in d.traces e
      → length (get_or ts (length d.entries - 1) no_trace).events ≡ length (current_trace d).events + 1
  events_noted ts e some is = grind (arith, kept, same_place, length-noted, get_or-set_same, length-append, last_is_current)

  noted_length : (ts : List TraceState) (e : Event) → ts ≡ noted_in d.traces e → length ts ≡ length d.entries
  noted_length ts e is = ap length is ∙ length-noted d.traces e ∙ kept.traces

  prepared_at : (depth : ℕ) → depth ≡ d.depth → (i : ℕ) (x : PreparedState) → i < length d.prepared → IsReady d.number (length d.entries + i) depth (block_of_state d (length d.entries + i)) (get_or d.prepared i x)
  prepared_at depth same i x within = rw same (kept.prepared i x within)

  at_kept : (s : Stage) (l : List ℤ) (fs : List Frame) (depth : ℕ) (ts : List TraceState) (cs : List (List SyncCount)) → depth ≡ d.depth → length ts ≡ length d.entries
      → length cs ≡ length d.entries → IsStaged (at s l fs depth ts cs) s → IsClient (at s l fs depth ts cs)
  at_kept s l fs depth ts cs same long many staged = search (rules, kept, prepared_at)

  -- a command was asked
  pub commanded : (l : List ℤ) (fs : List Frame) (depth : ℕ) (ts : List TraceState) (e : Event) (h : ℕ) → d.stage ≡ stage.Within → depth ≡ d.depth → ts ≡ noted_in d.traces e
      → AreSound d.program.objects (current_block d).reserved fs → is_in (current_block d).reserved h ≡ true → ((k : ℕ) → (if h == k then 1 else 0) + load_left fs k ≤ load_left d.frames k)
      → IsClient (at d.stage l fs depth ts d.counts)
  commanded l fs depth ts e h is same noted sound member less =
      let w = within_of is in
      let asked = sum_by-asked (load_left fs) (load_left d.frames) h (current_block d).reserved member less in
      let room : sum_by (load_left fs) (current_block d).reserved + 0 ≤ (get_or ts (length d.entries - 1) no_trace).room = omega (arith, asked, w.room, room_noted ts e w.some noted) in
      let long = events_noted ts e w.some noted in
      let few = few_in (suc (length (current_trace d).events + 0)) (suc (length (get_or ts (length d.entries - 1) no_trace).events + 0)) (current_counts d)
      (omega (arith, long)) w.few in
      at_kept d.stage l fs depth ts d.counts same (noted_length ts e noted) kept.counts
      (subst (IsStaged (at d.stage l fs depth ts d.counts)) (sym is) (within_at fs d.stage l depth ts d.counts 0 w.some sound room few))

  -- a query was asked
  pub queried : (x : ℕ) (l : List ℤ) (fs : List Frame) (depth : ℕ) (h : ℕ) (cs : List (List SyncCount)) → cs ≡ counted_in d.counts h → d.stage ≡ stage.Within → depth ≡ d.depth
      → AreSound d.program.objects (current_block d).reserved fs → is_in (current_block d).reserved h ≡ true → ((k : ℕ) → (if h == k then 1 else 0) + load_left fs k ≤ load_left d.frames k)
      → IsClient (at (stage.Waiting x) l fs depth d.traces cs)
  queried x l fs depth h cs counted is same sound member less =
      let w = within_of is in
      let asked = sum_by-asked (load_left fs) (load_left d.frames) h (current_block d).reserved member less in
      let room : sum_by (load_left fs) (current_block d).reserved + 1 ≤ (current_trace d).room = omega (arith, asked, w.room) in
      let n = length d.entries - 1 in
      let place : length d.counts - 1 ≡ n = ap (λ m. m - 1) kept.counts in
      let within : n < length d.counts = let many = kept.counts in let some = w.some in omega (arith, many, some) in
      let row : get_or cs n [] ≡ with_sync h (get_or d.counts n []) =
      ap (λ rows. get_or rows n []) (counted ∙ ap (λ m. set d.counts m (with_sync h (get_or d.counts m []))) place)
      ∙ get_or-set_same d.counts n (with_sync h (get_or d.counts n [])) [] within in
      let few : AreFew (suc (length (current_trace d).events + 1)) (get_or cs n []) =
      subst (AreFew (suc (length (current_trace d).events + 1))) (sym row)
      (few_in (suc (suc (length (current_trace d).events + 0))) (suc (length (current_trace d).events + 1)) (with_sync h (get_or d.counts n [])) (omega arith)
      (few_more (suc (length (current_trace d).events + 0)) h (get_or d.counts n []) w.few)) in
      at_kept (stage.Waiting x) l fs depth d.traces cs same kept.traces (ap length counted ∙ (length-set d.counts (length d.counts - 1) _ ∙ kept.counts))
      (within_at fs (stage.Waiting x) l depth d.traces cs 1 w.some sound room few)

  -- the block has ended
  pub ended : (l : List ℤ) (fs : List Frame) (depth : ℕ) → depth ≡ d.depth → fs ≡ [] → IsClient (at stage.Out l fs depth d.traces d.counts)
  ended l fs depth same none = at_kept stage.Out l fs depth d.traces d.counts same kept.traces kept.counts none

  -- a reply came
  pub answered : (x : ℕ) (l : List ℤ) (ts : List TraceState) (e : Event) → d.stage ≡ stage.Waiting x → ts ≡ noted_in d.traces e → IsClient (at stage.Within l d.frames d.depth ts d.counts)
  answered x l ts e is noted = grind (arith, waiting_of, room_noted, events_noted, few_in, at_kept, noted_length, kept, within_at)

  -- the trace has room for the command that is asked
  pub can_note : (fs : List Frame) (h : ℕ) → d.stage ≡ stage.Within → is_in (current_block d).reserved h ≡ true → ((k : ℕ) → (if h == k then 1 else 0) + load_left fs k ≤ load_left d.frames k) → 0 < (last_of d.traces).room
  can_note fs h is member less =
      let asked = sum_by-asked (load_left fs) (load_left d.frames) h (current_block d).reserved member less in
      rw last_is_current (omega (arith, asked, (within_of is).room))

push_nil : {X : Type 0} (xs : List X) (x : X) → xs ≡ [] → xs ++ x ∷ [] ≡ x ∷ []
push_nil xs x none = ap (λ ys. ys ++ x ∷ []) none

-- a block begins with what is prepared for it
module _ {d : ClientState} (kept : IsClient d) (sound : IsSound d.program) (x : PreparedState) (later : List PreparedState)
    (out : d.stage ≡ stage.Out) (first : d.prepared ≡ x ∷ later) where
  abbrev here : ℕ
  here = length d.entries

  more : length d.prepared ≡ length later + 1
  more = ap length first ∙ omega arith

  in_range : here < blocks_of d.program d.number
  in_range = omega (arith, kept.begun, more)

  abbrev its_block : BlockShape
  its_block = block_of_state d here

  ready : IsReady d.number here d.depth its_block x
  ready = grind (arith, kept, more, add-zero)

  abbrev pub new_client : List ℤ → List Frame → ℕ → List (List ℤ) → List TraceState → List (List SyncCount) → ClientState
  new_client l fs depth es ts cs = record {
    program = d.program;
    number = d.number;
    stage = stage.Within;
    locals = l;
    frames = fs;
    depth = depth;
    entries = es;
    traces = ts;
    counts = cs;
    prepared = later;
  }

  no_frames : d.frames ≡ []
  no_frames = subst (IsStaged d) out kept.staged

  load_of_one : (h : ℕ) → load_left (rest its_block.body ∷ []) h ≤ load_of its_block.body h
  load_of_one h = omega arith

  block_load_left : sum_by (load_left (rest its_block.body ∷ [])) its_block.reserved ≤ block_load its_block
  block_load_left = sum_by-mono (load_left (rest its_block.body ∷ [])) (load_of its_block.body) its_block.reserved load_of_one

  longer : (es : List (List ℤ)) (l : List ℤ) → es ≡ d.entries ++ l ∷ [] → length es ≡ here + 1
  longer es l is = ap length is ∙ length-append d.entries (l ∷ [])

  pub begun_within : (l : List ℤ) (fs : List Frame) (depth : ℕ) (es : List (List ℤ)) (ts : List TraceState) (cs : List (List SyncCount)) → fs ≡ d.frames ++ rest its_block.body ∷ [] → es ≡ d.entries ++ l ∷ [] → ts ≡ d.traces ++ x.trace ∷ []
      → cs ≡ d.counts ++ x.counts ∷ [] → IsWithin (new_client l fs depth es ts cs) 0
  begun_within l fs depth es ts cs frames entries traces counts =
      let place : length es - 1 ≡ here = omega (arith, longer es l entries) in
      let alone : fs ≡ rest its_block.body ∷ [] = frames ∙ push_nil d.frames (rest its_block.body) no_frames in
      let b : BlockShape = its_block in
      let body_sound : IsSoundBody d.program.objects its_block.reserved its_block.body = (sound_block d.program d.number here sound kept.number in_range).body in
      let last : get_or ts here no_trace ≡ x.trace = ap (λ us. get_or us here no_trace) traces ∙ ap (λ n. get_or (d.traces ++ x.trace ∷ []) n no_trace) (sym kept.traces) ∙ get_or-append_seam d.traces x.trace [] no_trace in
      record {
        some = omega (arith, longer es l entries);
        sound = subst (λ n. AreSound d.program.objects (block_of_state d n).reserved fs) (sym place) (subst (AreSound d.program.objects its_block.reserved) (sym alone) (body_sound, tt));
        room = grind (arith, block_load_left);
        few =
            let row : get_or cs here [] ≡ no_syncs its_block.reserved =
            ap (λ rows. get_or rows here []) counts ∙ (ap (λ n. get_or (d.counts ++ x.counts ∷ []) n []) (sym kept.counts)
            ∙ (get_or-append_seam d.counts x.counts [] [] ∙ ready.stocked.counts)) in
            subst (λ n. AreFew (suc (length (get_or ts n no_trace).events + 0)) (get_or cs n [])) (sym place)
            (subst (AreFew (suc (length (get_or ts here no_trace).events + 0))) (sym row) (few_none (length (get_or ts here no_trace).events + 0) its_block.reserved));
      }

  pub begun_kept : (l : List ℤ) (fs : List Frame) (depth : ℕ) (es : List (List ℤ)) (ts : List TraceState) (cs : List (List SyncCount)) → depth ≡ d.depth → fs ≡ d.frames ++ rest its_block.body ∷ [] → es ≡ d.entries ++ l ∷ [] → ts ≡ d.traces ++ x.trace ∷ []
      → cs ≡ d.counts ++ x.counts ∷ [] → IsClient (new_client l fs depth es ts cs)
  begun_kept l fs depth es ts cs same frames entries traces counts = record {
    number = kept.number;
    begun = omega (arith, longer es l entries, kept.begun, more);
    traces = ap length traces ∙ length-append d.traces (x.trace ∷ []) ∙ omega (arith, kept.traces, longer es l entries);
    counts = ap length counts ∙ length-append d.counts (x.counts ∷ []) ∙ omega (arith, kept.counts, longer es l entries);
    prepared = λ i y within. prepared_later es l depth entries same i y within;
    staged = begun_within l fs depth es ts cs frames entries traces counts;
  }
    where
      prepared_later : (es : List (List ℤ)) (l : List ℤ) (depth : ℕ) → es ≡ d.entries ++ l ∷ [] → depth ≡ d.depth → (i : ℕ) (y : PreparedState) → i < length later → IsReady d.number (length es + i) depth (block_of_state d (length es + i)) (get_or later i y)
      prepared_later es l depth entries same i y within =
          let old = kept.prepared (suc i) y (omega (arith, more)) in
          let place : here + suc i ≡ length es + i = omega (arith, longer es l entries) in
          rw same
          (subst (λ n. IsReady d.number n d.depth (block_of_state d n) (get_or later i y)) place
          (subst (IsReady d.number (here + suc i) d.depth (block_of_state d (here + suc i))) (ap (λ ps. get_or ps (suc i) y) first) old))
