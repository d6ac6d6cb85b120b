-- How a gate was passed for what a handler took from its queue of tickets.
use Rattle.std.specs.Prelude.{◌≡◌, ℕ, List, [], ◌∷◌}
use Rattle.qs_objects.specs.declared.held.Next.{Next}
use Rattle.qs_objects.specs.declared.held.Next.TheVariants as nexts
use Rattle.qs_objects.specs.declared.held.Ticket.{Ticket}

-- once for each ticket, in their order, each time with this object's number, and not for the closing mark; where
-- `moves` says how a pass moves a log on
abbrev pub ArePassed : {L : Type 0} → (L → Ticket → ℕ → L → Type 0) → ℕ → L → List Next → L → Type 0
ArePassed moves object log [] end = log ≡ end
ArePassed {L} moves object log (nexts.Ticket t ∷ more) end =
    (then : L) × moves log t object then × ArePassed moves object then more end
ArePassed moves object log (nexts.Closed ∷ more) end = ArePassed moves object log more end
