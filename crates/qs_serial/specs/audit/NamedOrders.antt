-- Orders that lists of clients name: where a client stands in the list, its next block stands in the order.
use Rattle.std.specs.Prelude.{ℕ, suc, List, [], ◌∷◌}
use Rattle.qs_objects.specs.declared.held.Ticket.{Ticket}
use Rattle.qs_meaning.specs.audit.Reduced.{Counts}
use Rattle.qs_meaning.specs.audit.Solo.{put}

-- from so many blocks that each client has begun
abbrev pub order_from : Counts → List ℕ → List Ticket
order_from begun [] = []
order_from begun (c ∷ cs) = record { client = c; index = begun c } ∷ order_from (put begun c (suc (begun c))) cs

-- each client's blocks in turn, from its first
abbrev pub order_of : List ℕ → List Ticket
order_of clients = order_from (λ _. 0) clients
