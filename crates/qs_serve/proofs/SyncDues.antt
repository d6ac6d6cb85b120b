-- The table of four runs of one order, one in each mode, has the exact numbers of its blocks: each of these runs is
-- counted by the traces that it has shown, all blocks have ended, and their traces are those of the serial run. The
-- functions of `syncs` stand on it.
use Rattle.std.proofs.Common.{◌≡◌, ◌<◌, ◌≤◌, ◌∙◌, ◌⊎◌, ℕ, zero, suc, Bool, true, false, List, [], ◌∷◌, Result, Ok, Err, IfOk, length, map, get_or, refl, sym, ap, subst, inl, inr, arith, IsOkAnd}
use Rattle.std.specs.List.{AllByRecursion}
use Rattle.qs_objects.specs.declared.Request.{Request}
use Rattle.qs_objects.specs.declared.held.Event.{Event}
use Rattle.qs_objects.specs.declared.held.Ticket.{Ticket}
use Rattle.qs_program.specs.audit.Program.{ProgramShape, text_of}
use Rattle.qs_program.specs.audit.Values.{Locals}
use Rattle.qs_meaning.specs.audit.Serial.{IsLegal, LegalFrom}
use Rattle.qs_meaning.specs.audit.Solo.{put}
use Rattle.qs_meaning.specs.Serial.{SerialBlock, serial}
use Rattle.qs_serial.specs.audit.NamedOrders.{order_from, order_of}
use Rattle.qs_serial.specs.declared.fault.OrderFault.{OrderFault}
use Rattle.qs_serial.specs.declared.fault.OrderFault.TheVariants as order_fault
use Rattle.qs_syncset.specs.SyncCounts.{AreOrdered, kept, queries, runs}
use Rattle.qs_syncset.specs.declared.mode.Mode.{Mode}
use Rattle.qs_syncset.specs.declared.mode.Mode.TheVariants.{Both}
use Rattle.qs_played.specs.Isolation.{IsIsolated, IsIsolatedBlock, entry_of, no_block, serial_block}
use Rattle.qs_played.specs.SyncSums.{AreSent, AreSyncsCounted, IsCounted, counts_at}
use Rattle.qs_played.specs.audit.Isolation.{ended_of, ticket_at, trace_of}
use Rattle.qs_played.specs.audit.Played.{Played, ticket}
use Rattle.qs_core_laws.specs.orders.CoreOrders.{IsPlayedInOrderOn}
use Rattle.qs_levels.proofs.meaning.Lists.{each_at}
use Rattle.qs_report.specs.SyncTable.{AreExactIn, IsExactAt, IsExactTable, TableShape}
use Rattle.qs_report.specs.declared.faults.Fault.TheVariants as fault
use Rattle.qs_line.specs.audit.Line.{by_order, by_schedule, syncs}
use Rattle.qs_line.specs.audit.Named.{actors_of, clients_of}
use Rattle.qs_line.specs.declared.line.Format.{Format}
use Rattle.qs_line.specs.declared.parts.Part.{Part}
use Rattle.qs_serve.specs.Due.{IsCountedOrder, IsDueOfProgram, IsOutOfMemory, IsRefusedBy, IsShownByPlay, IsSyncsText, IsTableDue, IsTabled, IsUnordered, client_of, default_chunk}
use Rattle.qs_serve.specs.declared.due.Due.{Due}
use Rattle.qs_serve.specs.declared.due.Due.TheVariants.{Text, No, Refused}
use Rattle.qs_serve.proofs.Dues.{of_named}

-- a block that has ended has sent exactly the counts
sent_all : (ended : Bool) (sent counts : ℕ → ℕ) → ended ≡ true → AreSent ended sent counts → (h : ℕ) → sent h ≡ counts h
sent_all ended sent counts is (inl all) h = all h
sent_all ended sent counts is (inr open_block) h = absurd (cc (is, open_block.0))

-- the numbers that a run shows of a block that has ended are exact
exact_block : (p : ProgramShape) (mode : Mode) (r : Played) (i : ℕ) → ended_of r i ≡ true → IsIsolatedBlock p r i
    → IsCounted p mode r i → IsExactAt p mode (ticket_at r i) (serial_block p r i) (counts_at r i)
exact_block p mode r i ended b x =
    let whole : trace_of r i ≡ (serial_block p r i).trace = b.whole ended in
    let body = (text_of p (ticket_at r i)).body in
    record {
      listed = x.listed;
      plain = λ e h. sent_all _ _ _ ended (x.plain e) h ∙ ap (λ es. queries h es) whole;
      dynamic = λ e h. sent_all _ _ _ ended (x.dynamic e) h ∙ ap (λ es. runs h es) whole;
      static = λ e held decides h.
          sent_all _ _ _ ended (x.static e held decides) h ∙ ap (λ es. kept body held (entry_of r i) h es) whole
          ∙ ap (λ (l : Locals). kept body held l h (serial_block p r i).trace) b.entry;
      tested = x.tested;
      ordered = λ held decides h.
          subst (λ (l : Locals). AreOrdered body l (serial_block p r i).trace h held) b.entry
          (subst (λ es. AreOrdered body (entry_of r i) es h held) whole (x.ordered held decides h));
      few = λ h. subst (λ es. runs h es ≤ queries h es) whole (x.few h);
    }

exact_run : (p : ProgramShape) (mode : Mode) (r : Played) (waits : ℕ → Ticket → List Request) → AllByRecursion (λ e. e ≡ true) r.ended
    → IsIsolated p r waits → AreSyncsCounted p mode r → AreExactIn p mode r.order r.sync_counts
unfolding IsIsolated AreSyncsCounted
exact_run p mode r waits ended isolated counted = record {
  long = isolated.fits.sync_counts;
  each = λ i less.
      exact_block p mode r i
      (each_at (λ e. e ≡ true) r.ended i false (subst (λ n. i < n) (sym isolated.fits.ended) less) ended)
      (isolated.places i less) (counted.each i less);
}

pub exact_in : (p : ProgramShape) (mode : Mode) (size : ℕ) (order : List Ticket) (r : Played) → IsPlayedInOrderOn p mode size order r
    → AreExactIn p mode order r.sync_counts
exact_in p mode size order r is =
    subst (λ ts. AreExactIn p mode ts r.sync_counts) is.order (exact_run p mode r _ is.ended is.isolated is.counted)

-- the clients of a legal order name it
named_from : (p : ProgramShape) (begun : ℕ → ℕ) (ts : List Ticket) → LegalFrom p begun ts
    → order_from begun (map client_of ts) ≡ ts
named_from p begun [] legal = refl
named_from p begun (t ∷ ts) legal =
    subst (λ n. (record { client = t.client; index = n } ∷ order_from (put begun t.client (suc n)) (map client_of ts)) ≡ (t ∷ ts))
    legal.0 (ap (λ l. t ∷ l) (named_from p (put begun t.client (suc t.index)) ts legal.2))

pub named_by_clients : (p : ProgramShape) (order : List Ticket) → IsLegal p order → order_of (map client_of order) ≡ order
named_by_clients p order legal = named_from p (λ _. 0) order legal

-- what is due of a table
pub table_due : (how : Format) (p : ProgramShape) (clients : List ℕ) (t : TableShape) (due : Due) → IsLegal p (order_of clients)
    → IsExactTable p (order_of clients) t → IsTabled how p t due → IsTableDue how p clients due
table_due how p clients t (Text bytes) legal exact is = (legal, (t, exact, is))
table_due how p clients t (No bytes) legal exact is = absurd is
table_due how p clients t (Refused f) legal exact is = subst (λ g. IsTableDue how p clients (Refused g)) (sym is) tt

pub table_is_no_input : (how : Format) (p : ProgramShape) (t : TableShape) (due : Due) → IsTabled how p t due → ¬ IsRefusedBy fault.Input due
table_is_no_input how p t (Text bytes) is = λ none. none
table_is_no_input how p t (No bytes) is = λ none. none
table_is_no_input how p t (Refused f) is = λ e. absurd (cc (is, e))

-- by the order that a list names
pub due_by_named : (how : Format) (p : ProgramShape) (list : List Part) (clients : List ℕ) (due : Due) → clients_of p list ≡ Ok clients
    → IsTableDue how p clients due → IsOutOfMemory due ⊎ IsDueOfProgram (syncs how (by_order list)) [] p due
due_by_named how p list clients (Text bytes) named is =
    inr (order_of clients, of_named (λ xs. IsLegal p (order_of xs) × (order_of clients ≡ order_of xs)) (clients_of p list) clients named (is.0, refl), is.1)
due_by_named how p list clients (No bytes) named is = absurd is
due_by_named how p list clients (Refused fault.Memory) named is = inl tt
due_by_named how p list clients (Refused (fault.Order f)) named is =
    inr (of_named (λ xs. IsUnordered p xs f) (clients_of p list) clients named is)
due_by_named how p list clients (Refused fault.CommandLine) named is = absurd is
due_by_named how p list clients (Refused fault.Input) named is = absurd is
due_by_named how p list clients (Refused (fault.Read f)) named is = absurd is
due_by_named how p list clients (Refused (fault.Check f)) named is = absurd is
due_by_named how p list clients (Refused (fault.Play f)) named is = absurd is
due_by_named how p list clients (Refused (fault.Run f)) named is = absurd is
due_by_named how p list clients (Refused (fault.Outcomes f)) named is = absurd is

-- a legal order is played, unless an allocation fails
only_memory : (p : ProgramShape) (clients : List ℕ) (f : OrderFault) → IsLegal p (order_of clients) → IsUnordered p clients f
    → IsOutOfMemory (Refused (fault.Order f))
only_memory p clients order_fault.Memory legal is = tt
only_memory p clients order_fault.Order legal is = absurd (is legal)

-- by the order of a schedule, which is legal
pub due_by_shown : (how : Format) (p : ProgramShape) (rounds : ℕ) (picks : List Part) (played : Played) (due : Due) → IsLegal p played.order
    → IsShownByPlay Both default_chunk (by_schedule rounds picks) p played → IsTableDue how p (map client_of played.order) due
    → IsOutOfMemory due ⊎ IsDueOfProgram (syncs how (by_schedule rounds picks)) [] p due
due_by_shown how p rounds picks played (Text bytes) legal shown is =
    inr (order_of (map client_of played.order), (played, shown, named_by_clients p played.order legal), is.1)
due_by_shown how p rounds picks played (No bytes) legal shown is = absurd is
due_by_shown how p rounds picks played (Refused fault.Memory) legal shown is = inl tt
due_by_shown how p rounds picks played (Refused (fault.Order f)) legal shown is =
    inl (only_memory p (map client_of played.order) f (subst (IsLegal p) (sym (named_by_clients p played.order legal)) legal) is)
due_by_shown how p rounds picks played (Refused fault.CommandLine) legal shown is = absurd is
due_by_shown how p rounds picks played (Refused fault.Input) legal shown is = absurd is
due_by_shown how p rounds picks played (Refused (fault.Read f)) legal shown is = absurd is
due_by_shown how p rounds picks played (Refused (fault.Check f)) legal shown is = absurd is
due_by_shown how p rounds picks played (Refused (fault.Play f)) legal shown is = absurd is
due_by_shown how p rounds picks played (Refused (fault.Run f)) legal shown is = absurd is
due_by_shown how p rounds picks played (Refused (fault.Outcomes f)) legal shown is = absurd is
