-- What a step under the plain rules does.
use Rattle.std.specs.Prelude.{ℕ, List, [], ◌∷◌, drop, Option, Some, None, ℤ}
use Rattle.qs_objects.specs.audit.Journals.{HeldState, run_one}
use Rattle.qs_objects.specs.declared.held.Entry.{Entry}
use Rattle.qs_objects.specs.declared.held.Ticket.{Ticket}
use Rattle.qs_meaning.specs.audit.Interaction.{Interaction, Done, Call, Query}
use Rattle.qs_played.specs.audit.Played.{ticket}
use Rattle.qs_played.specs.declared.schedule.actor.Actor.{Actor}
use Rattle.qs_played.specs.declared.schedule.actor.Actor.TheVariants as actor
use Rattle.qs_plain_laws.specs.audit.Plain.{Plain, Client, Private, StageOfClient, out, within, waiting, begun_blocks, client_at, current, handler_at}
use Rattle.qs_plain_laws.specs.declared.item.QueueItem.{QueueItem}
use Rattle.qs_plain_laws.specs.declared.item.QueueItem.TheVariants as item
use Rattle.qs_plain.specs.declared.handler.effect.Effect.{Effect}
use Rattle.qs_plain.specs.declared.handler.effect.Effect.TheVariants.{Reserves, Logs, Asks, Ends, Runs, Answers, Leaves}

-- a client logs a command, asks a query, or ends its block
abbrev pub effect_of_rest : Ticket → Interaction → Effect
effect_of_rest t (Done l) = Ends t
effect_of_rest t (Call r next) = Logs r
effect_of_rest t (Query r next) = Asks r

-- between blocks it reserves the next one, and while it waits it does nothing
abbrev pub effect_of_client : (c : ℕ) → Client → StageOfClient → Option Effect
effect_of_client c it (out l) = Some (Reserves (ticket c (begun_blocks it)))
effect_of_client c it (within rest) = Some (effect_of_rest (current c it) rest)
effect_of_client c it (waiting next) = None

-- a handler runs a command, answers a query, or leaves a ticket at its end mark
abbrev pub effect_of_item : Ticket → HeldState → QueueItem → Effect
effect_of_item t held (item.Command r) = Runs t r
effect_of_item t held (item.Query r) = Answers t r (run_one held t r).1
effect_of_item t held item.EndMark = Leaves t

-- by the first item of its first private queue
abbrev pub effect_of_queue : Ticket → HeldState → List QueueItem → Option Effect
effect_of_queue t held [] = None
effect_of_queue t held (i ∷ items) = Some (effect_of_item t held i)

abbrev pub effect_of_queues : HeldState → List Private → Option Effect
effect_of_queues held [] = None
effect_of_queues held (q ∷ qs) = effect_of_queue q.ticket held q.items

-- what an actor does, if it steps from this state
abbrev pub plain_effect : Plain → Actor → Option Effect
plain_effect s (actor.Client c) = effect_of_client c (client_at s c) (client_at s c).stage
plain_effect s (actor.Handler h) = effect_of_queues (handler_at s.handlers h).held (handler_at s.handlers h).queues

-- the same effect with this reply, where a query is answered
abbrev pub answered : Option ℤ → Effect → Effect
answered reply (Answers t r other) = Answers t r reply
answered reply (Reserves t) = Reserves t
answered reply (Logs r) = Logs r
answered reply (Asks r) = Asks r
answered reply (Ends t) = Ends t
answered reply (Runs t r) = Runs t r
answered reply (Leaves t) = Leaves t

-- an effect before its reply is known
abbrev pub unanswered : Option Effect → Option Effect
unanswered None = None
unanswered (Some effect) = Some (answered None effect)

-- the reply of the first entry of what a journal has more than before
abbrev pub reply_of : List Entry → Option ℤ
reply_of [] = None
reply_of (e ∷ es) = e.reply

abbrev pub reply_in : List Entry → (before : ℕ) → Option ℤ
reply_in journal before = reply_of (drop before journal)
