-- A desk, a client's share of it and a handler's tickets, as contracts see them.
use Rattle.std.specs.Prelude.{ℕ, Bool, List, refl}
use Rattle.std.specs.Coded.{Coded, code_by, coded×, coded_list, coded_ℕ}
use Rattle.atomic_table.specs.Seated.{TableId, table_id_coded}
use Rattle.qs_objects.specs.declared.held.Ticket.{Ticket}
use Rattle.qs_objects.specs.declared.held.Next.{Next}
use Rattle.qs_program.specs.audit.Program.{ProgramShape}
use Rattle.qs_program.specs.Shapes.{program_code}

-- all reservations so far, in their order, and whether the closing mark was put
pub record DeskView : Type 0 where
  pub history : List Ticket
  pub closed : Bool

-- whose share it is, and how many blocks it has booked
pub record ShareView : Type 0 where
  pub client : ℕ
  pub count : ℕ

-- whose tickets they are, and those that were taken
pub record TicketsView : Type 0 where
  pub handler : ℕ
  pub taken : List Next

-- a desk that has no name yet: its program, and the names of its queues, by handler, and of its ledgers, by client
pub record RawView : Type 0 where
  pub program : ProgramShape
  pub queues : List TableId
  pub ledgers : List ℕ

abbrev pub raw_code : Coded RawView
raw_code =
    code_by (ProgramShape × (List TableId × List ℕ))
    (coded× program_code (coded× (coded_list table_id_coded) (coded_list coded_ℕ)))
    (λ r. (r.program, (r.queues, r.ledgers))) (λ p. record {
      program = p.0;
      queues = p.1.0;
      ledgers = p.1.1;
    }) (λ _. refl)
