-- What a client's step has done, read off after it.
use Rattle.std.specs.Prelude.{◌≡◌, ◌<◌, ◌≤◌, ℕ, ◌-◌, Bool, true, false, length, Option, Some, None}
use Rattle.qs_objects.specs.declared.held.Ticket.{Ticket}
use Rattle.qs_program.specs.audit.Values.{Locals, request_of}
use Rattle.qs_played.specs.audit.Played.{ticket}
use Rattle.qs_played.specs.declared.schedule.actor.Actor.TheVariants as actor
use Rattle.qs_plain_laws.specs.audit.Plain.{Plain}
use Rattle.qs_plain.specs.client.Clients.{ClientState, client_state_at}
use Rattle.qs_plain.specs.handler.Effects.{plain_effect}
use Rattle.qs_plain.specs.Rules.{RulesState}
use Rattle.qs_plain.specs.declared.handler.effect.Effect.{Effect}
use Rattle.qs_plain.specs.declared.handler.effect.Effect.TheVariants.{Reserves, Logs, Asks, Ends}
use Rattle.qs_plain.specs.declared.did.Did.{Did}
use Rattle.qs_plain.specs.declared.did.Did.TheVariants as did

abbrev pub has_stepped : Did → Bool
has_stepped did.Nothing = false
has_stepped did.Reserved = true
has_stepped (did.Logged c) = true
has_stepped (did.Asked c) = true
has_stepped did.Ended = true

-- the ticket of the last block that a client has begun
abbrev pub last_ticket : ℕ → ClientState → Ticket
last_ticket c d = ticket c (length d.entries - 1)

-- what was done, with the variables after it
abbrev pub effect_of_did : Did → Locals → Ticket → Option Effect
effect_of_did did.Nothing l t = None
effect_of_did did.Reserved l t = Some (Reserves t)
effect_of_did (did.Logged c) l t = Some (Logs (request_of l c.now))
effect_of_did (did.Asked c) l t = Some (Asks (request_of l c.now))
effect_of_did did.Ended l t = Some (Ends t)

-- a request has at most three arguments
abbrev pub IsShortStep : Did → Type 0
IsShortStep did.Nothing = Unit {0}
IsShortStep did.Reserved = Unit {0}
IsShortStep (did.Logged c) = length c.now.args ≤ 3
IsShortStep (did.Asked c) = length c.now.args ≤ 3
IsShortStep did.Ended = Unit {0}

-- what client c did from the state before is read off the code's state after it
pub record HasDone (it : Did) (before : Plain) (c : ℕ) (new : RulesState) : Type 0 where
  pub there : c < length new.clients
  pub short : IsShortStep it
  pub effect : plain_effect before (actor.Client c) ≡ effect_of_did it (client_state_at new.clients c).locals
      (last_ticket c (client_state_at new.clients c))
