-- What may stand in a handler's queue of tickets.
use Rattle.std.specs.Prelude.{ℕ, ◌==◌, Bool, true, false, List, [], ◌∷◌, ◌++◌, map, filter}
use Rattle.qs_objects.specs.declared.held.Ticket as held
use Rattle.qs_objects.specs.declared.held.Next.{Next}
use Rattle.qs_objects.specs.declared.held.Next.TheVariants.{Ticket, Closed}
use Rattle.qs_program.specs.audit.Program.{ProgramShape}
use Rattle.qs_meaning.specs.audit.Following.{reserves}

-- the tickets of a client
abbrev pub of_client : ℕ → List held.Ticket → List held.Ticket
of_client c history = filter (λ t. t.client == c) history

-- the tickets whose blocks reserve a handler
abbrev pub of_handler : ProgramShape → ℕ → List held.Ticket → List held.Ticket
of_handler p h history = filter (λ t. reserves p t h) history

abbrev pub closing : Bool → List Next
closing true = Closed ∷ []
closing false = []

-- what was pushed to a handler: the tickets of the history that reserve it, in that order, and at last the closing mark
abbrev pub pushed_to : ProgramShape → ℕ → List held.Ticket → Bool → List Next
pushed_to p h history closed = map Ticket (of_handler p h history) ++ closing closed
