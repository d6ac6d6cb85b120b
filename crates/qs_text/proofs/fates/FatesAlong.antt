-- The fates of one ticket are picked from among those of a journal, from some place on, and those of a trace are found
-- request by request. The loops of `next_fate` and `trace_fates` go from one place to the next in this way. Each step
-- takes the first element off the lists that are left, or finds them empty.
use Rattle.std.proofs.Common.{◌≡◌, ◌<◌, ◌+◌, ℕ, zero, suc, nat_lt, Bool, true, false, if◌then◌else◌, ◌==◌, List, [], ◌∷◌, ◌++◌, length, replicate, get_or, drop, take, Option, slice_get, refl, sym, ap, ap₂, subst, ◌∙◌, arith, append_assoc}
use Rattle.std.proofs.lemmas.List.{drop_more, drop-drop, take_more, get_or-replicate}
use Rattle.std.proofs.lemmas.List.FromFn.{get_or-map-range_with_len, length-map-range_with_len}
use Rattle.std.proofs.lemmas.List.Sums.{sum_by_push}
use Rattle.std.proofs.lemmas.Bool.Decides.{nat_tests}
use Rattle.qs_objects.specs.audit.Act.{State}
use Rattle.qs_objects.specs.audit.Journals.{after}
use Rattle.qs_objects.specs.audit.Parts.{same}
use Rattle.qs_objects.specs.declared.held.Entry.{Entry}
use Rattle.qs_objects.specs.declared.held.Event.{Event}
use Rattle.qs_objects.specs.declared.held.Ticket.{Ticket}
use Rattle.qs_program.specs.audit.Program.{ProgramShape}
use Rattle.qs_meaning.specs.audit.Serial.{declared_states}
use Rattle.qs_played.specs.audit.Isolation.{journal_of, ticket_at}
use Rattle.qs_played.specs.audit.Played.{Played}
use Rattle.qs_text.specs.audit.fates.Fates.{fate_after, fate_of, fates_along, fates_for, fates_from, fates_of, fates_on, requests_on}
use Rattle.qs_text.specs.fates.Fates.{all_fates}
use Rattle.qs_text.specs.fates.Picked.{left_on, picked, picked_from}
use Rattle.qs_text.specs.declared.fates.fate.Fate.{Fate}

-- a ticket's own fates are picked from those of the whole journal
pub picked_all : (t : Ticket) (s : State) (j : List Entry) → picked t j (fates_from s j) ≡ fates_for t s j
picked_all t s [] = refl
picked_all t s (e ∷ es) =
    ap (λ l. (if same t e.ticket then fate_of s e.request ∷ [] else []) ++ l) (picked_all t (after s e.request) es)

picked_none : (t : Ticket) (j : List Entry) → picked t j [] ≡ []
picked_none t [] = refl
picked_none t (e ∷ es) = refl

-- an entry of another ticket is passed by
pub picked_later : (t : Ticket) (j : List Entry) (fs : List Fate) (i : ℕ) (x : Entry) → i < length j → x ≡ get_or j i x → same t x.ticket ≡ false
    → picked_from t j fs (suc i) ≡ picked_from t j fs i
picked_later t [] fs i x less is other = absurd (omega (arith, less))
picked_later t (e ∷ es) [] zero x less is other = picked_none t es
picked_later t (e ∷ es) (f ∷ fs) zero x less is other =
    let differs : same t e.ticket ≡ false = subst (λ (y : Entry). same t y.ticket ≡ false) is other in
    rw differs refl
picked_later t (e ∷ es) [] (suc i) x less is other = picked_none t (drop (suc i) es) ∙ sym (picked_none t (drop i es))
picked_later t (e ∷ es) (f ∷ fs) (suc i) x less is other = picked_later t es fs i x (omega (arith, less)) is other

-- an entry of the ticket has the next fate
pub picked_here : (t : Ticket) (j : List Entry) (fs : List Fate) (i : ℕ) (x : Entry) → i < length j → x ≡ get_or j i x → same t x.ticket ≡ true
    → (slice_get fs i ≡ slice_get (picked_from t j fs i) 0) × (picked_from t j fs (suc i) ≡ drop 1 (picked_from t j fs i))
picked_here t [] fs i x less is own = absurd (omega (arith, less))
picked_here t (e ∷ es) [] zero x less is own = (refl, picked_none t es)
picked_here t (e ∷ es) (f ∷ fs) zero x less is own =
    let it : same t e.ticket ≡ true = subst (λ (y : Entry). same t y.ticket ≡ true) is own in
    (rw it refl, rw it refl)
picked_here t (e ∷ es) [] (suc i) x less is own = (
  sym (ap (λ l. slice_get l 0) (picked_none t (drop i es))),
  picked_none t (drop (suc i) es) ∙ sym (ap (λ l. drop 1 l) (picked_none t (drop i es))),
)
picked_here t (e ∷ es) (f ∷ fs) (suc i) x less is own = picked_here t es fs i x (omega (arith, less)) is own

-- at the beginnings of all journals all is left
pub left_start : (p : ProgramShape) (run : Played) (i : ℕ) (fates : List (List Fate)) (places : List ℕ) (n : ℕ) → fates ≡ all_fates p run → n ≡ length fates
    → places ≡ replicate n 0 → (h : ℕ) → left_on run fates (ticket_at run i) places h ≡ drop 0 (fates_on p run i h)
left_start p run i fates places n is many begin h =
    ap (λ m. if nat_lt h m then picked_from (ticket_at run i) (journal_of run h) (get_or fates h []) (get_or places h 0) else []) count
    ∙ by_test (nat_lt h (length p.objects)) refl
  where
    count : length fates ≡ length p.objects
    count = ap (λ (l : List (List Fate)). length l) is ∙ length-map-range_with_len (fates_of p run) 0 (length p.objects)

    by_test : (b : Bool) → nat_lt h (length p.objects) ≡ b
        → (if b then picked_from (ticket_at run i) (journal_of run h) (get_or fates h []) (get_or places h 0) else [])
        ≡ (if b then fates_for (ticket_at run i) (declared_states p h) (journal_of run h) else [])
    by_test true e =
        let less : h < length p.objects = grind (arith, nat_tests, e) in
        let row : get_or fates h [] ≡ fates_of p run h = ap (λ (l : List (List Fate)). get_or l h []) is
        ∙ get_or-map-range_with_len (fates_of p run) 0 (length p.objects) h h [] less (omega arith) in
        let start : get_or places h 0 ≡ 0 = ap (λ l. get_or l h 0) begin ∙ get_or-replicate n h 0 0 (omega (arith, less, many, count)) in
        ap₂ (λ fs m. picked_from (ticket_at run i) (journal_of run h) fs m) row start
        ∙ picked_all (ticket_at run i) (declared_states p h) (journal_of run h)
    by_test false e = refl

first_left : {X : Type 0} (n : ℕ) (xs : List X) → slice_get (drop n xs) 0 ≡ slice_get xs n
first_left zero xs = refl
first_left (suc n) [] = refl
first_left (suc n) (x ∷ xs) = first_left n xs

-- the first of what is left on its object is what became of the next request
pub next_fate : (p : ProgramShape) (run : Played) (i : ℕ) (before : List Event) (x : Event) (left : ℕ → List Fate) (f : Option Fate)
    → ((h : ℕ) → left h ≡ drop (requests_on h before) (fates_on p run i h)) → f ≡ slice_get (left x.request.object) 0
    → f ≡ fate_after p run i before x
next_fate p run i before x left f is first =
    first ∙ (ap (λ l. slice_get l 0) (is x.request.object)
    ∙ first_left (requests_on x.request.object before) (fates_on p run i x.request.object))

-- one fate more
pub fates_step : (p : ProgramShape) (run : Played) (i : ℕ) (trace : List Event) (k : ℕ) (x : Event) (fates_so_far : List (Option Fate)) (f : Option Fate)
    (whole : List (Option Fate)) → k < length trace → x ≡ get_or trace k x → f ≡ fate_after p run i (take k trace) x
    → fates_so_far ++ fates_along p run i (take k trace) (drop k trace) ≡ whole
    → (fates_so_far ++ f ∷ []) ++ fates_along p run i (take (k + 1) trace) (drop (k + 1) trace) ≡ whole
fates_step p run i trace k x fates_so_far f whole less is fate so_far =
    let here : drop k trace ≡ x ∷ drop (k + 1) trace = drop_more trace k x less ∙ ap (λ y. y ∷ drop (k + 1) trace) (sym is) in
    let before : take (k + 1) trace ≡ take k trace ++ x ∷ [] = take_more trace k x less ∙ ap (λ y. take k trace ++ y ∷ []) (sym is) in
    append_assoc fates_so_far (f ∷ []) (fates_along p run i (take (k + 1) trace) (drop (k + 1) trace))
    ∙ (ap₂ (λ g es. fates_so_far ++ (g ∷ fates_along p run i es (drop (k + 1) trace))) fate before
    ∙ (sym (ap (λ l. fates_so_far ++ fates_along p run i (take k trace) l) here) ∙ so_far))

-- one request more has passed on its object
pub left_step : (p : ProgramShape) (run : Played) (i : ℕ) (trace : List Event) (k : ℕ) (x : Event) (left rest : ℕ → List Fate) → k < length trace
    → x ≡ get_or trace k x → ((h : ℕ) → left h ≡ drop (requests_on h (take k trace)) (fates_on p run i h))
    → ((h : ℕ) → rest h ≡ drop (if x.request.object == h then 1 else 0) (left h))
    → (h : ℕ) → rest h ≡ drop (requests_on h (take (k + 1) trace)) (fates_on p run i h)
left_step p run i trace k x left rest less is so_far one h =
    let before : take (k + 1) trace ≡ take k trace ++ x ∷ [] = take_more trace k x less ∙ ap (λ y. take k trace ++ y ∷ []) (sym is) in
    one h ∙ (ap (λ l. drop (if x.request.object == h then 1 else 0) l) (so_far h)
    ∙ (drop-drop (if x.request.object == h then 1 else 0) (requests_on h (take k trace)) (fates_on p run i h)
    ∙ sym (ap (λ n. drop n (fates_on p run i h))
    (ap (requests_on h) before ∙ sum_by_push (λ (e : Event). if e.request.object == h then 1 else 0) (take k trace) x))))
