-- Requests of a chunk that a handler runs, one after another.
use Rattle.std.specs.Prelude.{List, [], ◌∷◌}
use Rattle.qs_objects.specs.audit.Journals.{HeldState, run_one}
use Rattle.qs_objects.specs.declared.held.Ticket.{Ticket}
use Rattle.qs_objects.specs.declared.Request.{Request}

-- an object with its journal, once these requests ran in order under one ticket
abbrev pub ran_all : HeldState → Ticket → List Request → HeldState
ran_all h t [] = h
ran_all h t (r ∷ rs) = ran_all (run_one h t r).0 t rs
