-- Two clients that meet on one object, in both orders: journals, start states and private queues, computed by the
-- definitions.
use Rattle.std.specs.Prelude.{◌≡◌, ℕ, List, [], ◌∷◌, map, pos}
use Rattle.qs_objects.specs.audit.Act.{State, account}
use Rattle.qs_objects.specs.audit.Journals.{replay, without_tickets}
use Rattle.qs_objects.specs.Parts.{before}
use Rattle.qs_objects.specs.declared.held.Entry.{Entry}
use Rattle.qs_objects.specs.declared.held.Ticket.{Ticket}
use Rattle.qs_objects.specs.declared.Op.{Op}
use Rattle.qs_objects.specs.declared.Op.TheVariants.{Withdraw}
use Rattle.qs_objects.specs.declared.Request.{Request}
use Rattle.qs_meaning.specs.MeaningExamples.{withdrawals, ticket, left_with}
use Rattle.qs_meaning.specs.audit.Serial.{declared_states}
use Rattle.qs_played.specs.audit.Isolation.{journal_of}
use Rattle.qs_played.specs.Isolation.{serial_block}
use Rattle.qs_played.specs.ExampleRuns.{holding}
use Rattle.qs_played.specs.declared.schedule.actor.Actor.{Actor}
use Rattle.qs_played.specs.declared.schedule.actor.Actor.TheVariants as actor
use Rattle.qs_plain_laws.specs.PlainIsolation.{commands_in_queue}
use Rattle.qs_plain_laws.specs.PlayExamples.{shown_by_schedule}
use Rattle.qs_plain_laws.specs.PlainSchedule.{scheduled}

abbrev pub ops_of : List Request → List Op
ops_of rs = map (λ (r : Request). r.op) rs

-- what stands before a ticket's first entry leaves this state
abbrev pub state_before : List Actor → ℕ → Ticket → State
state_before picks rounds t =
    replay (declared_states withdrawals 0) (without_tickets
    (before t (journal_of (shown_by_schedule withdrawals picks rounds) 0)))

-- after a schedule the journal's tickets, the states that the first and the second reservation find, in the run and in
-- the serial run
pub record Meets (picks : List Actor) (rounds : ℕ) (first second : Ticket) (found_first found_second : State)
    (entries : List Ticket) : Type 0 where
  pub tickets : map (λ (e : Entry). e.ticket) (journal_of (shown_by_schedule withdrawals picks rounds) 0) ≡ entries
  pub serial_first : (serial_block withdrawals (shown_by_schedule withdrawals picks rounds) 0).starts 0 ≡ found_first
  pub serial_second : (serial_block withdrawals (shown_by_schedule withdrawals picks rounds) 1).starts 0 ≡ found_second
  pub before_first : state_before picks rounds first ≡ found_first
  pub before_second : state_before picks rounds second ≡ found_second

abbrev pub in_order : Ticket → Ticket → List Ticket
in_order t u = t ∷ t ∷ u ∷ u ∷ []

abbrev pub both_log : List Actor
both_log = actor.Client 0 ∷ actor.Client 0 ∷ actor.Client 1 ∷ actor.Client 1 ∷ []

pub record IsolationExamples : Type 0 where
  -- the first finds 100 and asks for 120, the second for 80
  pub greater_first : Meets [] 9 (ticket 0 0) (ticket 1 0) (holding 100) (left_with (account (pos 100)) 1)
      (in_order (ticket 0 0) (ticket 1 0))
  pub smaller_first : Meets (actor.Client 1 ∷ []) 9 (ticket 1 0) (ticket 0 0) (holding 100) (holding 20)
      (in_order (ticket 1 0) (ticket 0 0))
  -- both have logged, and nothing has run
  pub first_waits : ops_of (commands_in_queue (scheduled withdrawals both_log 0) 0 (ticket 0 0)) ≡ Withdraw ∷ []
  pub second_waits : ops_of (commands_in_queue (scheduled withdrawals both_log 0) 0 (ticket 1 0)) ≡ Withdraw ∷ []
  pub nothing_ran : journal_of (shown_by_schedule withdrawals both_log 0) 0 ≡ []
  -- a query that waits is no command on its way
  pub query_waits : ops_of (commands_in_queue (scheduled withdrawals (actor.Client 0 ∷ actor.Client 0 ∷ actor.Client 0
      ∷ []) 0) 0 (ticket 0 0)) ≡ Withdraw ∷ []
  -- no one else has a private queue there
  pub others : commands_in_queue (scheduled withdrawals both_log 0) 0 (ticket 2 0) ≡ []
