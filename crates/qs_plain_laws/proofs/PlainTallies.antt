-- The counts that a client keeps under the plain rules say, for each of its blocks and each object, the queries of the
-- block's trace, and one more for the query that the client waits for: so it is before the first block, and each thing
-- that happens to a client keeps it so.
use Rattle.std.proofs.Common.{◌≡◌, ◌≢◌, ◌<◌, ℕ, zero, suc, ◌+◌, ◌-◌, ◌==◌, true, false, if◌then◌else◌, List, [], ◌∷◌, ◌++◌, map, length, get_or, Option, None, ℤ, refl, subst, arith, get_or-set_same, get_or-set_other, length-set, rules}
use Rattle.std.specs.List.{IsDistinct}
use Rattle.qs_played.proofs.Names.{length-append, filter-append, is_query, Event, Request, apart_eqb, eqb_apart, eqb_self, num_cases, ProgramShape, text_of, is_in, Locals, Interaction, event, object_of, syncs_for, command_asks_none, query_counts, ticket}
use Rattle.qs_syncset.specs.SyncCounts.{asks, queries}
use Rattle.qs_played.proofs.SyncTallies.{none_for, objects_none, objects_stay, one_more_for}
use Rattle.qs_plain_laws.specs.audit.Plain.{Client, StageOfClient, begins, begun_blocks, with_query_counted, stands, with_trace_event, waiting, within}
use Rattle.qs_plain_laws.proofs.RunViews.{PlainStage, Awaits}

-- the query that a client waits for, by its object
abbrev pub asked_of : PlainStage → ℕ → ℕ
asked_of (Awaits r next) h = if r.object == h then 1 else 0
asked_of _ h = 0

-- an event at the end of a trace
last_query : (h : ℕ) (es : List Event) (e : Event) → asks e ≡ true → queries h (es ++ e ∷ []) ≡ (if e.request.object == h then 1 else 0) + queries h es
last_query h es e is = search (rules, filter-append, length-append, query_counts)

last_command : (h : ℕ) (es : List Event) (e : Event) → asks e ≡ false → queries h (es ++ e ∷ []) ≡ queries h es
last_command h es e is = search (rules, filter-append, length-append, command_asks_none)

-- one element more
row_here : {X : Type 0} (xs : List X) (x d : X) (n : ℕ) → length xs ≡ n → get_or (xs ++ x ∷ []) n d ≡ x
row_here [] x d zero same = refl
row_here (y ∷ xs) x d (suc n) same = row_here xs x d n (omega (arith, same))
row_here _ x d _ same = absurd (omega (arith, same))

row_there : {X : Type 0} (xs : List X) (x d : X) (i : ℕ) → i < length xs → get_or (xs ++ x ∷ []) i d ≡ get_or xs i d
row_there [] x d i inside = absurd (omega (arith, inside))
row_there (y ∷ xs) x d zero inside = refl
row_there (y ∷ xs) x d (suc i) inside = row_there xs x d i (omega (arith, inside))

-- in the block that a client of n begun blocks is in, what it waits for; in those before, nothing
abbrev waiting_extra : ℕ → (ℕ → ℕ) → ℕ → ℕ → ℕ
waiting_extra n extra i h = if suc i == n then extra h else 0

none_waited : (n : ℕ) (extra : ℕ → ℕ) (i h : ℕ) → extra h ≡ 0 → waiting_extra n extra i h ≡ 0
none_waited n extra i h none = search rules

waited_here : (n : ℕ) (extra : ℕ → ℕ) (i h : ℕ) → suc i ≡ n → waiting_extra n extra i h ≡ extra h
waited_here n extra i h is = subst (λ n. waiting_extra n extra i h ≡ extra h) is (rw (eqb_self (suc i)) refl)

waited_there : (n : ℕ) (extra : ℕ → ℕ) (i h : ℕ) → suc i ≢ n → waiting_extra n extra i h ≡ 0
waited_there n extra i h apart = let no = eqb_apart (suc i) n apart in rw no refl

-- a client's counts, where it waits for this
pub record Tallied (p : ProgramShape) (c : ℕ) (it : Client) (extra : ℕ → ℕ) : Type 0 where
  pub long : length it.counts ≡ begun_blocks it
  pub objects : (i : ℕ) → i < begun_blocks it → map object_of (get_or it.counts i []) ≡ (text_of p (ticket c i)).reserved
  pub numbers : (i : ℕ) → i < begun_blocks it → (h : ℕ) → syncs_for (get_or it.counts i []) h ≡ waiting_extra (begun_blocks it) extra i h + queries h (get_or it.traces i [])

abbrev nothing : ℕ → ℕ
nothing h = 0

module _ (p : ProgramShape) (c : ℕ) (it : Client) (extra : ℕ → ℕ) (is : Tallied p c it extra) where
  -- a client that waits for nothing, wherever it stands
  pub tallied_stand : (g : StageOfClient) → ((h : ℕ) → extra h ≡ 0) → Tallied p c (stands it g) nothing
  tallied_stand g none = search (rules, none_waited)

  -- a command comes to the trace of the block that it is in
  pub tallied_call : (r : Request) (next : Interaction) → ((h : ℕ) → extra h ≡ 0) → length it.traces ≡ begun_blocks it → 0 < begun_blocks it → is_query r.op ≡ false
      → Tallied p c (stands (with_trace_event it (begun_blocks it - 1) (event r None)) (within next)) nothing
  tallied_call r next none traces some op = search (rules, none_waited, get_or-set_same, last_command, get_or-set_other, apart_eqb, num_cases)

  -- a query is asked, and its client waits
  pub tallied_ask : (r : Request) (next : ℤ → Interaction) → ((h : ℕ) → extra h ≡ 0) → 0 < begun_blocks it
      → is_in (text_of p (ticket c (begun_blocks it - 1))).reserved r.object ≡ true → IsDistinct ◌==◌ (text_of p (ticket c (begun_blocks it - 1))).reserved
      → Tallied p c (stands (with_query_counted it (begun_blocks it - 1) r.object) (waiting next)) (λ h. if r.object == h then 1 else 0)
  tallied_ask r next none some listed distinct = search (rules, length-set, objects_stay, get_or-set_other, apart_eqb, num_cases, none_waited, one_more_for, waited_here, waited_there, get_or-set_same)

  -- its next block begins
  pub tallied_begin : (l : Locals) (rest : Interaction) → ((h : ℕ) → extra h ≡ 0) → length it.traces ≡ begun_blocks it
      → Tallied p c (begins it l rest (text_of p (ticket c (begun_blocks it))).reserved) nothing
  tallied_begin l rest none traces = search (rules, length-append, row_here, objects_none, apart_eqb, row_there, num_cases, none_waited, none_for)

-- the query that a client waits for is answered
pub tallied_reply : (p : ProgramShape) (c : ℕ) (it : Client) (r : Request) (v : Option ℤ) (k : ℕ) (rest : Interaction)
    → Tallied p c it (λ h. if r.object == h then 1 else 0) → suc k ≡ begun_blocks it → length it.traces ≡ begun_blocks it → is_query r.op ≡ true
    → Tallied p c (stands (with_trace_event it k (event r v)) (within rest)) nothing
tallied_reply p c it r v k rest is last traces op = search (rules, none_waited, get_or-set_same, last_query, waited_here, apart_eqb, get_or-set_other, waited_there, num_cases)
