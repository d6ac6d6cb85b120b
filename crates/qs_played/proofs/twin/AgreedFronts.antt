-- Blocks that agree, of isolated runs, have equal traces as far as the shorter one goes: the first replies that differ
-- would be of a query that both blocks made, on an object on which both have an entry, and which both found in the same
-- state.
use Rattle.std.proofs.Common.{◌≡◌, ◌<◌, ◌≤◌, ◌⊎◌, inl, inr, ⊎_elim, ℕ, zero, suc, Bool, true, false, true≢false, ◌==◌, if◌then◌else◌, List, [], ◌∷◌, ◌++◌, length, get_or, take, refl, sym, ap, subst, ◌∙◌, arith, rules}
use Rattle.qs_played.proofs.Names.{AllByRecursion, without_tickets, is_query, entries_of, part, same, HasEntry, Request, Entry, Event, Ticket, apart_eqb, ticket_cases, AllByRecursion-get_or, ProgramShape, text_of, IsSound, Locals, HasValues, SameTrace, SameValues, declared_states, zeros, SerialBlock, serial, serial_from, States, put, solo, journal_of, ticket_at, trace_of, Played, ticket, Agreement, SameObjects, shorter}
use Rattle.qs_meaning.proofs.AlikeTraces.{Alike, IsPlaceOf, places_of, solo_traces}
use Rattle.qs_played.specs.Isolation.{IsIsolated, IsIsolatedBlock, entry_of, no_block, serial_block, queries_of}
use Rattle.qs_played.proofs.ReservedObjects.{reserved_inside}

-- a query of a trace has an entry, since it was answered

has_or_none : (t : Ticket) (j : List Entry) → HasEntry t j ⊎ (entries_of t j ≡ [])
has_or_none t [] = inr refl
has_or_none t (x ∷ xs) =
    ⊎_elim
    (λ (is : t ≡ x.ticket). inl (inl is))
    (λ (other : same t x.ticket ≡ false).
    ⊎_elim (λ (has : HasEntry t xs). inl (inr has)) (λ (none : entries_of t xs ≡ []). inr (rw other none)) (has_or_none t xs))
    (ticket_cases t x.ticket)

none_asked : (h : ℕ) (es : List Event) → queries_of (part h es) ≡ []
    → AllByRecursion (λ (e : Event). e.request.object ≡ h → is_query e.request.op ≡ true → ⊥) es
none_asked h [] none = tt
none_asked h (e ∷ es) none = by_object (e.request.object == h) refl (none_asked h es) none
  where
    by_op : (b : Bool) → is_query e.request.op ≡ b
        → (queries_of (part h es) ≡ [] → AllByRecursion (λ (e : Event). e.request.object ≡ h → is_query e.request.op ≡ true → ⊥) es)
        → (if b then e ∷ queries_of (part h es) else queries_of (part h es)) ≡ []
        → AllByRecursion (λ (e : Event). e.request.object ≡ h → is_query e.request.op ≡ true → ⊥) (e ∷ es)
    by_op true is rest none = absurd (cc (none))
    by_op false is rest none = ((λ at asks. true≢false (sym asks ∙ is)), rest none)

    by_object : (b : Bool) → (e.request.object == h) ≡ b
        → (queries_of (part h es) ≡ [] → AllByRecursion (λ (e : Event). e.request.object ≡ h → is_query e.request.op ≡ true → ⊥) es)
        → queries_of (if b then e ∷ part h es else part h es) ≡ []
        → AllByRecursion (λ (e : Event). e.request.object ≡ h → is_query e.request.op ≡ true → ⊥) (e ∷ es)
    by_object true at rest none = by_op (is_query e.request.op) refl rest none
    by_object false at rest none = ((λ is asks. apart_eqb e.request.object h at is), rest none)

each_kept_by : (P Q : Event → Type 0) → ((e : Event) → P e → Q e) → (es : List Event) → AllByRecursion P es → AllByRecursion Q es
each_kept_by P Q f [] k = tt
each_kept_by P Q f (e ∷ es) k = (f e k.0, each_kept_by P Q f es k.1)

all_hold : (P : Event → Type 0) → ((e : Event) → P e) → (es : List Event) → AllByRecursion P es
all_hold P f [] = tt
all_hold P f (e ∷ es) = (f e, all_hold P f es)

asked_entry : (t : Ticket) (h : ℕ) (j : List Entry) (es : List Event) → queries_of (part h es) ≡ queries_of (without_tickets (entries_of t j))
    → AllByRecursion (λ (e : Event). e.request.object ≡ h → is_query e.request.op ≡ true → HasEntry t j) es
asked_entry t h j es is =
    ⊎_elim
    (λ (has : HasEntry t j). all_hold (λ (e : Event). e.request.object ≡ h → is_query e.request.op ≡ true → HasEntry t j) (λ e at asks. has) es)
    (λ (none : entries_of t j ≡ []).
    each_kept_by (λ (e : Event). e.request.object ≡ h → is_query e.request.op ≡ true → ⊥)
    (λ (e : Event). e.request.object ≡ h → is_query e.request.op ≡ true → HasEntry t j) (λ e f at asks. absurd (f at asks)) es
    (none_asked h es (is ∙ ap (λ k. queries_of (without_tickets k)) none)))
    (has_or_none t j)

-- on whatever object of the program
abbrev Asked : ProgramShape → Ticket → (ℕ → List Entry) → Event → Type 0
Asked p t journal e = (h : ℕ) → h < length p.objects → e.request.object ≡ h → is_query e.request.op ≡ true → HasEntry t (journal h)

all_asked : (p : ProgramShape) (t : Ticket) (journal : ℕ → List Entry) (es : List Event)
    → ((h : ℕ) → h < length p.objects → AllByRecursion (λ (e : Event). e.request.object ≡ h → is_query e.request.op ≡ true → HasEntry t (journal h)) es)
    → AllByRecursion (Asked p t journal) es
all_asked p t journal [] each = tt
all_asked p t journal (e ∷ es) each = ((λ h less. (each h less).0), all_asked p t journal es (λ h less. (each h less).1))

-- what the places of a serial run are

place_ticket : (p : ProgramShape) (ls : ℕ → Locals) (st : States) (ts : List Ticket) (i : ℕ) (d : Ticket) (e : SerialBlock) → i < length ts
    → (get_or (serial_from p ls st ts).places i e).ticket ≡ get_or ts i d
place_ticket p ls st [] i d e less = absurd (omega (arith, less))
place_ticket p ls st (t ∷ ts) zero d e less = refl
place_ticket p ls st (t ∷ ts) (suc i) d e less =
    let o = solo (text_of p t).body (ls t.client) st in place_ticket p (put ls t.client o.locals) o.states ts i d e (omega (arith, less))

places_long : (p : ProgramShape) (ls : ℕ → Locals) (st : States) (ts : List Ticket) → length (serial_from p ls st ts).places ≡ length ts
places_long p ls st [] = refl
places_long p ls st (t ∷ ts) =
    let o = solo (text_of p t).body (ls t.client) st in ap suc (places_long p (put ls t.client o.locals) o.states ts)

-- the fronts of two traces that are alike
module _ (p q : ProgramShape) (sound : IsSound p) (right : IsSound q) (t u : Ticket) (st tu : States) (journal other : ℕ → List Entry)
    (starts : (h g : ℕ) → SameObjects p q h g → HasEntry t (journal h) → HasEntry u (other g) → st h ≡ tu g) where
  fronts : (n : ℕ) (es rest ds later : List Event) → Alike p q sound right t u st tu (es ++ rest) (ds ++ later) → n ≤ length es → n ≤ length ds
      → AllByRecursion (Asked p t journal) es → AllByRecursion (Asked q u other) ds → SameTrace p q (take n es) (take n ds)
  fronts zero es rest ds later k a b here there = tt
  fronts (suc n) [] rest ds later k a b here there = absurd (omega (arith, a))
  fronts (suc n) (e ∷ es) rest [] later k a b here there = absurd (omega (arith, b))
  fronts (suc n) (e ∷ es) rest (d ∷ ds) later (inl k) a b here there =
      (k.0, fronts n es rest ds later k.1 (omega (arith, a)) (omega (arith, b)) here.1 there.1)
  fronts (suc n) (e ∷ es) rest (d ∷ ds) later (inr k) a b here there =
      let h : ℕ = e.request.object in
      let g : ℕ = d.request.object in
      let asks : is_query d.request.op ≡ true = subst (λ o. is_query o ≡ true) k.request.op k.asks in
      absurd (k.apart
      (starts h g k.same.name (here.0 h (reserved_inside p sound t h k.same.here) refl k.asks)
      (there.0 g (reserved_inside q right u g k.same.there) refl asks)))

-- a reservation of an isolated run
record Shown (p : ProgramShape) (r : Played) (i : ℕ) : Type 0 where
  pub place : IsIsolatedBlock p r i
  pub alone : HasValues p (ticket_at r i) (serial_block p r i).entry
      × ((serial_block p r i).trace ≡ (solo (text_of p (ticket_at r i)).body (serial_block p r i).entry (serial_block p r i).starts).trace)
  pub asked : AllByRecursion (Asked p (ticket_at r i) (journal_of r)) (trace_of r i)

shown : (p : ProgramShape) → IsSound p → (r : Played) (waits : ℕ → Ticket → List Request) (i : ℕ) → i < length r.order → IsIsolated p r waits → Shown p r i
unfolding IsIsolated
shown p sound r waits i less iso =
    let place : SerialBlock = serial_block p r i in
    let is : place.ticket ≡ ticket_at r i = place_ticket p (λ _. zeros) (declared_states p) r.order i (ticket 0 0) no_block less in
    let many : length (serial p r.order).places ≡ length r.order = places_long p (λ _. zeros) (declared_states p) r.order in
    let of : IsPlaceOf p place = AllByRecursion-get_or (IsPlaceOf p) (serial p r.order).places i no_block (places_of p sound r.order) (omega (arith, less, many)) in
    record {
      place = iso.places i less;
      alone = subst (λ t. HasValues p t place.entry × (place.trace ≡ (solo (text_of p t).body place.entry place.starts).trace)) is of;
      asked = all_asked p (ticket_at r i) (journal_of r) (trace_of r i)
          (λ h inside. asked_entry (ticket_at r i) h (journal_of r h) (trace_of r i) ((iso.objects h inside).queries i less));
    }

pub agreed_fronts : (p q : ProgramShape) → IsSound p → IsSound q → (r s : Played) (i j : ℕ) → i < length r.order → j < length s.order
    → Agreement p r i q s j → (waits later : ℕ → Ticket → List Request) → IsIsolated p r waits → IsIsolated q s later
    → SameTrace p q (take (shorter p r i q s j) (trace_of r i)) (take (shorter p r i q s j) (trace_of s j))
agreed_fronts p q sound right r s i j less within agree waits later iso iso' =
    let a : SerialBlock = serial_block p r i in
    let b : SerialBlock = serial_block q s j in
    let t : Ticket = ticket_at r i in
    let u : Ticket = ticket_at s j in
    let here : Shown p r i = shown p sound r waits i less iso in
    let there : Shown q s j = shown q right s later j within iso' in
    let values : SameValues p q t u a.entry b.entry =
    subst (λ k. SameValues p q t u a.entry k) there.place.entry (subst (λ l. SameValues p q t u l (entry_of s j)) here.place.entry agree.values) in
    let alone : Alike p q sound right t u a.starts b.starts (solo (text_of p t).body a.entry a.starts).trace (solo (text_of q u).body b.entry b.starts).trace =
    solo_traces p q sound right t u a.starts b.starts agree.text a.entry b.entry here.alone.0 there.alone.0 values in
    let alike : Alike p q sound right t u a.starts b.starts (trace_of r i ++ here.place.front.0) (trace_of s j ++ there.place.front.0) =
    subst (λ ds. Alike p q sound right t u a.starts b.starts (trace_of r i ++ here.place.front.0) ds) (sym (there.place.front.1 ∙ there.alone.1))
    (subst (λ es. Alike p q sound right t u a.starts b.starts es (solo (text_of q u).body b.entry b.starts).trace) (sym (here.place.front.1 ∙ here.alone.1)) alone) in
    let n : ℕ = shorter p r i q s j in
    fronts p q sound right t u a.starts b.starts (journal_of r) (journal_of s)
    (λ h g name has has'. sym (here.place.starts h has) ∙ (agree.starts h g name has has' ∙ there.place.starts g has'))
    n (trace_of r i) here.place.front.0 (trace_of s j) there.place.front.0 alike (omega arith) (omega arith) here.asked there.asked
