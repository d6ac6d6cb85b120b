-- The traces of a client's blocks, stored as rows of events and a list of rooms, are what contracts see of them: each
-- block's events, and how many more it may have. The functions of `Traces` stand on these lemmas. They go by induction
-- on the rows and the rooms together.
use Rattle.std.proofs.Common.{◌≡◌, ◌<◌, ◌≤◌, ℕ, zero, suc, ◌+◌, ◌-◌, List, [], ◌∷◌, ◌++◌, length, get_or, set, map, replicate, refl, sym, ap, ◌∙◌, arith, get_or-set_other, length-append, length-set}
use Rattle.qs_objects.specs.Rows.{IsLast}
use Rattle.qs_objects.specs.Sums.{total}
use Rattle.qs_objects.specs.Traces.{AreEmptyAfter, HaveRoom, TraceState, empty_trace, events_of, with_last_event, noted_at, rooms_left, trace_at, trace_state, with_rooms}
use Rattle.qs_objects.specs.declared.held.Event.{Event}

pub length_rooms : (rows : List (List Event)) (rooms : List ℕ) → length rooms ≡ length rows → length (with_rooms rows rooms) ≡ length rooms
length_rooms [] [] same = refl
length_rooms [] (n ∷ rooms) same = absurd (omega (arith, same))
length_rooms (es ∷ rows) [] same = refl
length_rooms (es ∷ rows) (n ∷ rooms) same = ap suc (length_rooms rows rooms (omega (arith, same)))

-- a block's trace is its row with its room
pub trace_of_rooms : (rows : List (List Event)) (rooms : List ℕ) (k : ℕ) → length rooms ≡ length rows
    → trace_at (with_rooms rows rooms) k ≡ trace_state (get_or rows k []) (get_or rooms k 0 - length (get_or rows k []))
trace_of_rooms [] (n ∷ rooms) k same = absurd (omega (arith, same))
trace_of_rooms (es ∷ rows) [] k same = absurd (omega (arith, same))
trace_of_rooms (es ∷ rows) (n ∷ rooms) (suc k) same = trace_of_rooms rows rooms k (omega (arith, same))
trace_of_rooms _ _ _ same = refl

pub events_of_rooms : (rows : List (List Event)) (rooms : List ℕ) → length rooms ≡ length rows → events_of (with_rooms rows rooms) ≡ rows
events_of_rooms [] rooms same = refl
events_of_rooms (es ∷ rows) [] same = absurd (omega (arith, same))
events_of_rooms (es ∷ rows) (n ∷ rooms) same = ap (λ rest. es ∷ rest) (events_of_rooms rows rooms (omega (arith, same)))

-- where later blocks have no events, later rows have none
pub last_of_rooms : (rows : List (List Event)) (rooms : List ℕ) (k : ℕ) → length rooms ≡ length rows → AreEmptyAfter (with_rooms rows rooms) k → IsLast rows k
last_of_rooms rows rooms k same none j after =
    sym (ap (λ (t : TraceState). t.events) (trace_of_rooms rows rooms j same)) ∙ none j after

-- with an event more in a row, less is left of its room by one
pub note_rooms : (rows : List (List Event)) (rooms : List ℕ) (k : ℕ) (e : Event) → length rooms ≡ length rows → k < length rows
    → with_rooms (set rows k (get_or rows k [] ++ e ∷ [])) rooms ≡ noted_at (with_rooms rows rooms) k e
note_rooms [] rooms k e same inside = absurd (omega (arith, inside))
note_rooms (es ∷ rows) [] k e same inside = absurd (omega (arith, same))
note_rooms (es ∷ rows) (n ∷ rooms) zero e same inside =
    let one_less : n - length (es ++ e ∷ []) ≡ n - length es - 1 = omega (arith, length-append es (e ∷ [])) in
    ap (λ left. trace_state (es ++ e ∷ []) left ∷ with_rooms rows rooms) one_less
note_rooms (es ∷ rows) (n ∷ rooms) (suc k) e same inside =
    ap (λ rest. trace_state es (n - length es) ∷ rest) (note_rooms rows rooms k e (omega (arith, same)) (omega (arith, inside)))

-- empty traces
pub fresh_rooms : (rooms : List ℕ) → with_rooms (replicate (length rooms) []) rooms ≡ map empty_trace rooms
fresh_rooms [] = refl
fresh_rooms (n ∷ rooms) =
    let all : n - 0 ≡ n = omega arith in
    ap (λ left. trace_state [] left ∷ with_rooms (replicate (length rooms) []) rooms) all ∙ ap (λ rest. empty_trace n ∷ rest) (fresh_rooms rooms)

pub fresh_left : (rooms : List ℕ) → rooms_left (map empty_trace rooms) ≡ rooms
fresh_left [] = refl
fresh_left (n ∷ rooms) = ap (λ rest. n ∷ rest) (fresh_left rooms)

-- what is left of a room is within what is left of all
pub room_within : (ts : List TraceState) (k : ℕ) → (trace_at ts k).room ≤ total (rooms_left ts)
room_within (t ∷ ts) (suc k) = let rest = room_within ts k in omega (arith, rest)
room_within _ _ = omega arith

-- an event takes one of what is left
left_note : (ts : List TraceState) (k : ℕ) (e : Event) → k < length ts → 0 < (trace_at ts k).room
    → total (rooms_left (noted_at ts k e)) + 1 ≡ total (rooms_left ts)
left_note [] k e inside some = absurd (omega (arith, inside))
left_note (t ∷ ts) zero e inside some = omega (arith, some)
left_note (t ∷ ts) (suc k) e inside some = let rest = left_note ts k e (omega (arith, inside)) some in omega (arith, rest)

-- a block has its row
pub within : (rows : List (List Event)) (rooms : List ℕ) (room k : ℕ) → HaveRoom rows rooms room → k < length (with_rooms rows rooms) → k < length rows
within rows rooms room k have inside =
    let many = have.many in
    omega (arith, many, length_rooms rows rooms many, inside)

-- an event takes one room
pub note_room : (rows : List (List Event)) (rooms : List ℕ) (room k : ℕ) (e : Event) → HaveRoom rows rooms room → k < length rows
    → 0 < (trace_at (with_rooms rows rooms) k).room → HaveRoom (set rows k (get_or rows k [] ++ e ∷ [])) rooms (room - 1)
note_room rows rooms room k e have inside some =
    let many = have.many in
    let whole = have.whole in
    let less = left_note (with_rooms rows rooms) k e (omega (arith, inside, many, length_rooms rows rooms many)) some in
    record {
      many = many ∙ sym (length-set rows k (get_or rows k [] ++ e ∷ []));
      whole = omega (arith, whole, ap (λ ts. total (rooms_left ts)) (note_rooms rows rooms k e many inside), less);
    }

-- with an event more in a block's trace, later blocks have none still
pub empty_after_note : (ts : List TraceState) (k : ℕ) (e : Event) → AreEmptyAfter ts k → AreEmptyAfter (noted_at ts k e) k
empty_after_note ts k e none j after =
    ap (λ (t : TraceState). t.events) (get_or-set_other ts k j (with_last_event (trace_at ts k) e) (trace_state [] 0) (λ same. omega (arith, same, after))) ∙ none j after
