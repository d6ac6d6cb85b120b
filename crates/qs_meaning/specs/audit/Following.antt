-- Traces along interaction trees.
use Rattle.std.specs.Prelude.{ℕ, Bool}
use Rattle.qs_objects.specs.declared.held.Ticket.{Ticket}
use Rattle.qs_program.specs.audit.Program.{ProgramShape, text_of}
use Rattle.qs_program.specs.audit.Sound.{is_in}

-- whether a ticket's block reserves an object
abbrev pub reserves : ProgramShape → Ticket → ℕ → Bool
reserves p t h = is_in (text_of p t).reserved h
