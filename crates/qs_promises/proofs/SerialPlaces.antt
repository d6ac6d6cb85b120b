-- A place of a serial run is its block, run alone on the states that the blocks before it leave; and it is settled by
-- the order up to there. What a run shows of a block is isolated, so the same holds of it.
use Rattle.std.proofs.Common.{◌≡◌, ◌∙◌, ◌<◌, ℕ, zero, suc, arith, List, [], ◌∷◌, get_or, length, take, refl, sym, ap, subst}
use Rattle.qs_objects.specs.audit.Parts.{IsFront}
use Rattle.qs_objects.specs.declared.Request.{Request}
use Rattle.qs_objects.specs.declared.held.Ticket.{Ticket}
use Rattle.qs_program.specs.audit.Program.{ProgramShape, text_of}
use Rattle.qs_program.specs.audit.Values.{Locals}
use Rattle.qs_meaning.specs.audit.Serial.{declared_states, zeros}
use Rattle.qs_meaning.specs.Serial.{SerialBlock, serial_from}
use Rattle.qs_meaning.specs.audit.Solo.{States, put, solo}
use Rattle.qs_played.specs.audit.Isolation.{ticket_at, trace_of}
use Rattle.qs_played.specs.Isolation.{IsIsolated, IsIsolatedBlock, no_block, serial_block}
use Rattle.qs_played.specs.audit.Played.{Played, ticket}
use Rattle.qs_played.proofs.twin.AgreedFronts.{agreed_fronts}
use Rattle.qs_promises.specs.BlockAlone.{BlocksAreAsIfAlone, BlocksThatAgreeDoTheSame, IsAsIfAlone, OnlyTheOrderDecides, ShowTheSame, alone, left_before}
use Rattle.qs_promises.specs.SerialOrder.{IsInSerialOrder, RunsAreInSerialOrder}
use Rattle.qs_promises.proofs.Isolating.{all_isolated}

-- a block at a place: its variables and its states are those that the blocks before it leave, and so it runs alone
abbrev IsPlace : ProgramShape → (ℕ → Locals) → States → List Ticket → ℕ → Ticket → SerialBlock → Type 0
IsPlace p ls st ts i d b =
    let before = serial_from p ls st (take i ts) in
    (b.entry ≡ before.locals (get_or ts i d).client) × (b.starts ≡ before.states)
    × (b.trace ≡ (solo (text_of p (get_or ts i d)).body b.entry before.states).trace)

pub place_is : (p : ProgramShape) (ls : ℕ → Locals) (st : States) (ts : List Ticket) (i : ℕ) (d : Ticket) (e : SerialBlock)
    → i < length ts → IsPlace p ls st ts i d (get_or (serial_from p ls st ts).places i e)
place_is p ls st [] i d e less = absurd (omega (arith, less))
place_is p ls st (t ∷ ts) zero d e less = (refl, refl, refl)
place_is p ls st (t ∷ ts) (suc i) d e less =
    let o = solo (text_of p t).body (ls t.client) st in place_is p (put ls t.client o.locals) o.states ts i d e (omega (arith, less))

-- the order up to a place settles it
place_front : (p : ProgramShape) (ls : ℕ → Locals) (st : States) (ts : List Ticket) (i : ℕ) (e : SerialBlock)
    → get_or (serial_from p ls st ts).places i e ≡ get_or (serial_from p ls st (take (suc i) ts)).places i e
place_front p ls st [] i e = refl
place_front p ls st (t ∷ ts) zero e = refl
place_front p ls st (t ∷ ts) (suc i) e =
    let o = solo (text_of p t).body (ls t.client) st in place_front p (put ls t.client o.locals) o.states ts i e

in_serial_order : (p : ProgramShape) (r : Played) (waits : ℕ → Ticket → List Request) → IsIsolated p r waits
    → IsInSerialOrder p r
unfolding IsIsolated
in_serial_order p r waits isolated = record {
  fits = isolated.fits;
  legal = isolated.legal;
  blocks = λ i less. let b = isolated.places i less in record { entry = b.entry; beginning = b.front; done = b.whole };
}

pub place_of : (p : ProgramShape) (r : Played) (waits : ℕ → Ticket → List Request) → IsIsolated p r waits → (i : ℕ)
    → i < length r.order → IsIsolatedBlock p r i
unfolding IsIsolated
place_of p r waits isolated i less = isolated.places i less

as_if_alone : (p : ProgramShape) (r : Played) (i : ℕ) → i < length r.order → IsIsolatedBlock p r i → IsAsIfAlone p r i
as_if_alone p r i less b =
    let is : alone p r i ≡ (serial_block p r i).trace =
    ap (λ l. (solo (text_of p (ticket_at r i)).body l (left_before p r i)).trace) b.entry
    ∙ sym (place_is p (λ _. zeros) (declared_states p) r.order i (ticket 0 0) no_block less).2 in
    record {
      beginning = subst (IsFront (trace_of r i)) (sym is) b.front;
      done = λ e. b.whole e ∙ sym is;
      found = λ h has.
          b.starts h has ∙ ap (λ st. st h) (place_is p (λ _. zeros) (declared_states p) r.order i (ticket 0 0) no_block less).1;
    }

show_the_same : (p : ProgramShape) (r s : Played) (i : ℕ) → take (suc i) r.order ≡ take (suc i) s.order
    → IsIsolatedBlock p r i → IsIsolatedBlock p s i → ShowTheSame r s i
show_the_same p r s i orders a b =
    let from = λ (ts : List Ticket). get_or (serial_from p (λ _. zeros) (declared_states p) ts).places i no_block in
    let is : serial_block p r i ≡ serial_block p s i =
    place_front p (λ _. zeros) (declared_states p) r.order i no_block
    ∙ (ap from orders ∙ sym (place_front p (λ _. zeros) (declared_states p) s.order i no_block)) in
    let traces : (serial_block p r i).trace ≡ (serial_block p s i).trace = ap (λ (q : SerialBlock). q.trace) is in
    record {
      entry = a.entry ∙ (ap (λ (q : SerialBlock). q.entry) is ∙ sym b.entry);
      beginnings = ((serial_block p r i).trace, a.front, subst (IsFront (trace_of s i)) (sym traces) b.front);
      done = λ e f. a.whole e ∙ (traces ∙ sym (b.whole f));
    }

pub serial_order : RunsAreInSerialOrder
serial_order p sound way r run = let x = all_isolated p sound way r run in in_serial_order p r x.0 x.1

pub blocks_alone : BlocksAreAsIfAlone
blocks_alone p sound way r run i less =
    let x = all_isolated p sound way r run in as_if_alone p r i less (place_of p r x.0 x.1 i less)

pub order_decides : OnlyTheOrderDecides
order_decides p sound way other r s run too i less within orders =
    let x = all_isolated p sound way r run in
    let y = all_isolated p sound other s too in
    show_the_same p r s i orders (place_of p r x.0 x.1 i less) (place_of p s y.0 y.1 i within)

pub agreeing_blocks : BlocksThatAgreeDoTheSame
agreeing_blocks p q sound right way other r s run too i j less within agree =
    let x = all_isolated p sound way r run in
    let y = all_isolated q right other s too in agreed_fronts p q sound right r s i j less within agree x.0 y.0 x.1 y.1
