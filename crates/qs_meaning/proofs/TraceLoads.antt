-- A block alone, and each block of a serial run, makes at most as many requests on an object as its load says. The law
-- on traces and loads is proved here. It goes by induction on the interaction tree along the path that the trace takes,
-- and for a serial run by induction on the order.
use Rattle.std.proofs.Common.{◌≡◌, ℕ, ◌-◌, ◌≤◌, Bool, true, false, ◌==◌, if◌then◌else◌, List, [], ◌∷◌, length, ap, arith, None}
use Rattle.qs_meaning.proofs.Common.{AllByRecursion, answer, Event, load_of, Locals, part, ProgramShape, text_of, Ticket}
use Rattle.qs_meaning.specs.audit.Interaction.{Interaction, Done, Call, Query, tree_of}
use Rattle.qs_meaning.specs.Interaction.{run}
use Rattle.qs_meaning.specs.Paths.{counts, Within}
use Rattle.qs_meaning.specs.audit.Serial.{declared_states, zeros}
use Rattle.qs_meaning.specs.Serial.{SerialBlock, serial_from}
use Rattle.qs_meaning.specs.audit.Solo.{States, BlockResult, states_after, event, value_of, put, solo}
use Rattle.qs_meaning.specs.TraceLoads.{TracesWithinLoad, SerialWithinLoad}
use Rattle.qs_meaning.proofs.RequestPaths.{requests_within}
use Rattle.qs_meaning.proofs.Trees.{trees_agree}

-- one more request
counted : (b : Bool) (e : Event) (es : List Event) (n : ℕ) → (if b then 1 else 0) ≤ n → length es ≤ n - (if b then 1 else 0) → length (if b then e ∷ es else es) ≤ n
counted true e es n h k = omega (arith, h, k)
counted false e es n h k = omega (arith, k)

run_within : (h : ℕ) (t : Interaction) (st : States) (n : ℕ) → Within h t n → length (part h (run t st).trace) ≤ n
run_within h (Done l) st n w = omega arith
run_within h (Call r next) st n w =
    let es = (run next (states_after st r)).trace in
    counted (r.object == h) (event r None) (part h es) n w.0 (run_within h next (states_after st r) (n - counts h r) w.1)
run_within h (Query r next) st n w =
    let v = answer (st r.object) r in
    let es = (run (next (value_of v)) (states_after st r)).trace in
    counted (r.object == h) (event r v) (part h es) n w.0 (run_within h (next (value_of v)) (states_after st r) (n - counts h r) (w.1 (value_of v)))

pub traces_within : TracesWithinLoad
traces_within body l st h =
    let same : length (part h (solo body l st).trace) ≡ length (part h (run (tree_of body l) st).trace) = ap (λ (o : BlockResult). length (part h o.trace)) (trees_agree body l st) in
    omega (arith, same, run_within h (tree_of body l) st (load_of body h) (requests_within body l h))

places_within : (p : ProgramShape) (h : ℕ) (ls : ℕ → Locals) (st : States) (order : List Ticket) → AllByRecursion (λ (s : SerialBlock). length (part h s.trace) ≤ load_of (text_of p s.ticket).body h) (serial_from p ls st order).places
places_within p h ls st [] = tt
places_within p h ls st (t ∷ ts) =
    let o = solo (text_of p t).body (ls t.client) st in
    (traces_within (text_of p t).body (ls t.client) st h, places_within p h (put ls t.client o.locals) o.states ts)

pub serial_within : SerialWithinLoad
serial_within p order h = places_within p h (λ _. zeros) (declared_states p) order
