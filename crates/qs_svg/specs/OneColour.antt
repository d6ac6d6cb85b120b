-- What a picture shows of a run that is isolated: each stretch is all that its object ran for its ticket, and so of one
-- colour; with the last ticket no request is left, and what the object holds then is its last state.
use Rattle.std.specs.Prelude.{◌≡◌, ◌<◌, ℕ, List, length}
use Rattle.std.specs.List.{AllByRecursion}
use Rattle.qs_objects.specs.audit.Parts.{entries_of}
use Rattle.qs_objects.specs.declared.Request.{Request}
use Rattle.qs_objects.specs.declared.held.Entry.{Entry}
use Rattle.qs_objects.specs.declared.held.Ticket.{Ticket}
use Rattle.qs_program.specs.audit.Program.{ProgramShape}
use Rattle.qs_played.specs.Isolation.{IsIsolated}
use Rattle.qs_played.specs.audit.Isolation.{state_of}
use Rattle.qs_played.specs.audit.Played.{Played}
use Rattle.qs_svg.specs.audit.Stretches.{journal_of, state_at, stretch, stretch_start, ticket_at}

-- all entries are in the colour of a client
abbrev pub AreOfColour : ℕ → List Entry → Type 0
AreOfColour client entries = AllByRecursion (λ (e : Entry). e.ticket.client ≡ client) entries

-- the row of an object of a run
pub record IsOfWholeBlocks (p : ProgramShape) (run : Played) (h : ℕ) : Type 0 where
  pub whole : (i : ℕ) → i < length run.order → stretch run h i ≡ entries_of (ticket_at run i) (journal_of run h)
  pub colour : (i : ℕ) → i < length run.order → AreOfColour (ticket_at run i).client (stretch run h i)
  pub all : stretch_start run h (length run.order) ≡ length (journal_of run h)
  pub last : state_at p run h (length run.order) ≡ state_of run h

abbrev pub AreRowsOfWholeBlocks : Type 0
AreRowsOfWholeBlocks =
    (p : ProgramShape) (run : Played) (waits : ℕ → Ticket → List Request) → IsIsolated p run waits
    → (h : ℕ) → h < length p.objects → IsOfWholeBlocks p run h
