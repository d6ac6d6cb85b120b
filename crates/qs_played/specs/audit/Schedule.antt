-- Schedules: first the picks, one step each, then rounds, each of them one step of every client and of every handler in
-- text order.
use Rattle.std.specs.Prelude.{◌⊎◌, IsSome, ℕ, zero, suc, Bool, true, ◌&&◌, nat_lt, if◌then◌else◌, List, [], ◌∷◌, ◌++◌, map, length, sum_by, Option, Some, None}
use Rattle.std.specs.List.{range_with_len}
use Rattle.qs_objects.specs.audit.Operations.{is_query}
use Rattle.qs_objects.specs.declared.held.Event.{Event}
use Rattle.qs_program.specs.audit.Program.{ProgramShape}
use Rattle.qs_played.specs.declared.schedule.actor.Actor.{Actor}
use Rattle.qs_played.specs.declared.schedule.actor.Actor.TheVariants as actor

-- a round: all clients, then all handlers, in text order
abbrev pub actors_of : ProgramShape → List Actor
actors_of p =
    map actor.Client (range_with_len 0 (length p.clients)) ++ map actor.Handler (range_with_len 0 (length p.objects))

abbrev pub rounds_of : ℕ → List Actor → List Actor
rounds_of zero turn = []
rounds_of (suc n) turn = rounds_of n turn ++ turn

-- the picks, and then so many rounds
abbrev pub schedule : ProgramShape → List Actor → ℕ → List Actor
schedule p picks rounds = picks ++ rounds_of rounds (actors_of p)

abbrev pub names_actor : ProgramShape → Actor → Bool
names_actor p (actor.Client c) = nat_lt c (length p.clients)
names_actor p (actor.Handler h) = nat_lt h (length p.objects)

abbrev pub all_named : ProgramShape → List Actor → Bool
all_named p [] = true
all_named p (a ∷ rest) = names_actor p a && all_named p rest

abbrev pub queries_in : List Event → ℕ
queries_in events = sum_by (λ (e : Event). if is_query e.request.op then 1 else 0) events

abbrev pub most_rounds : ℕ
most_rounds = 1000000

module _ {S : Type 0} where
  -- an actor without a step changes nothing
  abbrev pub or_stay : S → Option S → S
  or_stay s None = s
  or_stay s (Some t) = t

  -- by a machine's step function: one step of each actor of a list, in this order
  abbrev pub plays_by : (S → Actor → Option S) → List Actor → S → S
  plays_by step [] s = s
  plays_by step (a ∷ rest) s = plays_by step rest (or_stay s (step s a))

  -- somebody of a list has a step, where each one before had its own
  abbrev pub HasStep : (S → Actor → Option S) → List Actor → S → Type 0
  HasStep step [] s = ⊥
  HasStep step (a ∷ rest) s = IsSome (step s a) ⊎ HasStep step rest (or_stay s (step s a))
