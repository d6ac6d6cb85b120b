-- In the optimised machine nobody is in a block.
use Rattle.std.specs.Prelude.{◌≡◌, ℕ, zero, suc, true, List, [], ◌∷◌, ◌++◌, length, None}
use Rattle.qs_objects.specs.audit.Journals.{HeldState}
use Rattle.qs_objects.specs.declared.held.Ticket.{Ticket}
use Rattle.qs_program.specs.audit.Program.{ProgramShape}
use Rattle.qs_chunk.specs.audit.Limits.{spare_room}
use Rattle.qs_handler.specs.audit.Handler.{free}
use Rattle.qs_client.specs.audit.ClientModel.{is_between}
use Rattle.qs_played.specs.declared.schedule.actor.Actor.{Actor}
use Rattle.qs_played.specs.declared.schedule.actor.Actor.TheVariants as actor
use Rattle.qs_core_laws.specs.audit.Core.{Core}

-- nothing is on its way in the lane of a client to a handler, and all its empty chunks lie ready
pub record IsLaneClear (s : Core) (c h : ℕ) : Type 0 where
  pub down : s.down c h ≡ []
  pub up : s.up c h ≡ None
  pub spare : s.spare c h ≡ spare_room

-- Nobody is in a block, and nothing is in a lane or a queue of tickets; these tickets were reserved, and each client
-- has begun so many blocks.
pub record IsCoreQuiet (so_far : List Ticket) (blocks : ℕ → ℕ) (s : Core) : Type 0 where
  pub order : s.order ≡ so_far
  pub begun : (c : ℕ) → (s.client c).begun ≡ blocks c
  pub stages : (c : ℕ) → is_between (s.client c).stage ≡ true
  pub lanes : (c h : ℕ) → IsLaneClear s c h
  pub handlers : (h : ℕ) → (x : HeldState) × (s.handler h ≡ free x)
  pub tickets : (h : ℕ) → s.tickets h ≡ []

-- two steps of each of the first n handlers, in text order
abbrev pub two_of_each : ℕ → List Actor
two_of_each zero = []
two_of_each (suc n) = two_of_each n ++ actor.Handler n ∷ actor.Handler n ∷ []

-- a turn of a client: one step of it, and then two of each handler
abbrev pub turn_of : ProgramShape → ℕ → List Actor
turn_of p c = actor.Client c ∷ two_of_each (length p.objects)
