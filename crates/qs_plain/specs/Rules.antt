-- The code of the plain rules: what it holds, which state of the plain rules that is, and what it keeps.
use Rattle.std.specs.Prelude.{◌≡◌, ◌<◌, ◌≤◌, ℕ, ◌+◌, ◌-◌, Bool, true, false, List, map, length, sum_by, Some, refl}
use Rattle.std.specs.List.{AllByRecursion}
use Rattle.std.specs.Coded.{Coded, codes, code_by, coded×, coded_list}
use Rattle.qs_objects.specs.Journals.{ticket_code}
use Rattle.qs_objects.specs.declared.held.Ticket.{Ticket}
use Rattle.qs_objects.specs.audit.Parts.{same}
use Rattle.qs_program.specs.audit.Program.{ProgramShape}
use Rattle.qs_program.specs.Shapes.{program_code}
use Rattle.qs_played.specs.Isolation.{IsIsolated}
use Rattle.qs_played.specs.audit.Played.{ticket}
use Rattle.qs_played.specs.declared.schedule.actor.Actor.{Actor}
use Rattle.qs_plain_laws.specs.PlainIsolation.{commands_in_queue}
use Rattle.qs_plain_laws.specs.audit.Plain.{Plain, begin, step}
use Rattle.qs_plain_laws.specs.audit.PlainSchedule.{played_of, plays}
use Rattle.qs_plain_laws.specs.PlainSyncSums.{AreQueriesCounted}
use Rattle.qs_plain.specs.client.Clients.{ClientState, client_of_state, client_code, client_state_at}
use Rattle.qs_plain.specs.client.Frames.{load_left}
use Rattle.qs_plain.specs.client.Queues.{AreApart, QueueState}
use Rattle.qs_plain.specs.declared.client.stage.Stage.{Stage}
use Rattle.qs_plain.specs.declared.client.stage.Stage.TheVariants as stage
use Rattle.qs_plain.specs.handler.Handlers.{handler_state_at}
use Rattle.qs_plain.specs.handler.Served.{HandlerState, handler_of_state}

pub record RulesState : Type 0 where
  pub program : ProgramShape
  pub order : List Ticket
  pub clients : List ClientState
  pub handlers : List HandlerState

-- the state of the plain rules
abbrev pub plain_of : RulesState → Plain
plain_of r =
    record { order = r.order; clients = map client_of_state r.clients; handlers = map handler_of_state r.handlers }

-- one step of the actor under the plain rules of the same program
abbrev pub Steps : RulesState → Actor → RulesState → Type 0
Steps old actor new = (step old.program (plain_of old) actor ≡ Some (plain_of new)) × (new.program ≡ old.program)

-- a list of actors leads to it
abbrev pub IsSteppedTo : RulesState → Type 0
IsSteppedTo r = (actors : List Actor) × (plain_of r ≡ plays r.program actors (begin r.program))

-- what it has shown is isolated, with the commands that lie in private queues on their way
abbrev pub AreIsolated : RulesState → Type 0
AreIsolated r = IsIsolated r.program (played_of r.program (plain_of r)) (commands_in_queue (plain_of r))

-- how many blocks are to come
abbrev pub to_come : List ClientState → ℕ
to_come cs = sum_by (λ c. length c.prepared) cs

abbrev pub is_in_block : Stage → Bool
is_in_block stage.Out = false
is_in_block stage.Within = true
is_in_block (stage.Waiting x) = true

-- a private queue at handler h: its block was begun, and it has room for what that block can still log there and for
-- the end mark
pub record IsOpen (cs : List ClientState) (h : ℕ) (q : QueueState) : Type 0 where
  pub begun : (c : ℕ) → c < length cs → q.queue.ticket.client ≡ c
      → q.queue.ticket.index < length (client_state_at cs c).entries
  pub room : (c : ℕ) → c < length cs → is_in_block (client_state_at cs c).stage ≡ true
      → same (ticket c (length (client_state_at cs c).entries - 1)) q.queue.ticket ≡ true
      → load_left (client_state_at cs c).frames h + 1 ≤ q.room

pub record IsRules (r : RulesState) : Type 0 where
  pub clients : length r.clients ≡ length r.program.clients
  pub own : (c : ℕ) → c < length r.clients → ((client_state_at r.clients c).program ≡ r.program)
      × ((client_state_at r.clients c).number ≡ c)
  pub handlers : length r.handlers ≡ length r.program.objects
  pub rooms : (h : ℕ) → h < length r.handlers → to_come r.clients ≤ (handler_state_at r.handlers h).room
  pub queues : (h : ℕ) → h < length r.handlers
      → AllByRecursion (IsOpen r.clients h) (handler_state_at r.handlers h).queues
  pub apart : (h : ℕ) → h < length r.handlers → AreApart (handler_state_at r.handlers h).queues

pub handler_code : Coded HandlerState
handler_code = hlevel codes

abbrev pub rules_code : Coded RulesState
rules_code =
    code_by (ProgramShape × (List Ticket × (List ClientState × List HandlerState)))
    (coded× program_code (coded× (coded_list ticket_code) (coded× (coded_list client_code) (coded_list handler_code))))
    (λ r. (r.program, (r.order, (r.clients, r.handlers))))
    (λ p. record { program = p.0; order = p.1.0; clients = p.1.1.0; handlers = p.1.1.1 })
    (λ _. refl)

-- and what the plain rules have
abbrev pub AreRulesCounted : RulesState → Type 0
AreRulesCounted r = AreQueriesCounted r.program (plain_of r) (played_of r.program (plain_of r))
