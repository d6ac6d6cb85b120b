-- Each run is as if serial: its blocks are isolated, and what a place of the serial run is follows from the order up to
-- there. `IsAsIfSerial` says it by where the blocks before a place lead, so that its reader need not know what a serial
-- run and its places are.
use Rattle.std.proofs.Common.{◌≡◌, ◌∙◌, ◌<◌, ℕ, List, length, take, drop, sym, ap, subst}
use Rattle.std.proofs.lemmas.List.{take-append-drop}
use Rattle.qs_objects.specs.audit.Parts.{IsFront}
use Rattle.qs_objects.specs.declared.held.Ticket.{Ticket}
use Rattle.qs_program.specs.audit.Program.{ProgramShape, text_of}
use Rattle.qs_meaning.specs.audit.Configurations.{first_configuration}
use Rattle.qs_meaning.specs.Configurations.{OrderOutcome}
use Rattle.qs_meaning.specs.audit.Serial.{IsLegal, declared_states, zeros}
use Rattle.qs_meaning.specs.audit.Solo.{solo}
use Rattle.qs_meaning.proofs.Orders.{configurations_follow_orders, legal-front}
use Rattle.qs_played.specs.audit.Isolation.{ticket_at, trace_of}
use Rattle.qs_played.specs.Isolation.{IsIsolatedBlock, no_block, serial_block}
use Rattle.qs_played.specs.audit.Played.{Played, ticket}
use Rattle.qs_promises.specs.audit.AsIfSerial.{HasItsOwn, alone_at}
use Rattle.qs_promises.specs.AsIfSerial.{RunsAreAsIfSerial}
use Rattle.qs_promises.specs.BlockAlone.{left_before}
use Rattle.qs_promises.proofs.Between.{undisturbed}
use Rattle.qs_promises.proofs.Ending.{finished_whole}
use Rattle.qs_promises.proofs.Isolating.{all_isolated}
use Rattle.qs_promises.proofs.SerialPlaces.{place_is, place_of, serial_order}

legal_before : (p : ProgramShape) (order : List Ticket) (i : ℕ) → IsLegal p order → IsLegal p (take i order)
legal_before p order i legal =
    legal-front p (first_configuration p) (take i order) (drop i order)
    (subst (IsLegal p) (sym (take-append-drop i order)) legal)

has_its_own : (p : ProgramShape) (r : Played) (i : ℕ) → i < length r.order → IsLegal p r.order → IsIsolatedBlock p r i
    → HasItsOwn p r i
has_its_own p r i less legal b =
    let t = ticket_at r i in
    let before = configurations_follow_orders p (take i r.order) (legal_before p r.order i legal) in
    let place = place_is p (λ _. zeros) (declared_states p) r.order i (ticket 0 0) no_block less in
    let is : alone_at p r i ≡ (serial_block p r i).trace =
    ap (λ (o : OrderOutcome). (solo (text_of p t).body (o.locals t.client) o.states).trace) before
    ∙ (ap (λ l. (solo (text_of p t).body l (left_before p r i)).trace) (sym place.0)
    ∙ sym place.2) in
    record { beginning = subst (IsFront (trace_of r i)) (sym is) b.front; ended = λ e. b.whole e ∙ sym is }

pub as_if_serial : RunsAreAsIfSerial
as_if_serial p sound way r run =
    let x = all_isolated p sound way r run in
    let legal = (serial_order p sound way r run).legal in
    record {
      legal = legal;
      blocks = λ i less. has_its_own p r i less legal (place_of p r x.0 x.1 i less);
      states = undisturbed p sound way r run;
      whole = finished_whole p sound way r run;
    }
