-- A client's variables in a run: its last block's text runs once more, with the replies of its trace.
use Rattle.std.specs.Prelude.{ℕ, zero, suc, ℤ, if◌then◌else◌, ◌==◌, List, [], ◌∷◌, length, slice_index_or, slice_set}
use Rattle.qs_objects.specs.declared.held.Event.{Event}
use Rattle.qs_program.specs.audit.Program.{ProgramShape, text_of}
use Rattle.qs_program.specs.audit.Statements.{Statements, end, command, query, assign, choose, again, leave}
use Rattle.qs_program.specs.audit.Values.{Locals, expr_value, test_value}
use Rattle.qs_meaning.specs.audit.Interaction.{turns_in}
use Rattle.qs_meaning.specs.audit.Serial.{zeros}
use Rattle.qs_meaning.specs.audit.Solo.{value_of}
use Rattle.qs_played.specs.audit.Played.{Played}
use Rattle.qs_text.specs.audit.Words.{first_ticket}

-- the variables after a trace, by the variables now and what is left of the trace
abbrev pub Replay : Type 0
Replay = Locals → List Event → Locals

-- the trace is over
abbrev pub over : Replay
over l es = l

-- past the next request of a trace, by its reply; where none is left, the variables stay as they are
abbrev pub past_request : Locals → (ℤ → List Event → Locals) → List Event → Locals
past_request l next [] = l
past_request l next (e ∷ es) = next (value_of e.reply) es

-- Statements, by what comes after them and what comes after the innermost repeat, as in `meaning_in`: each request is
-- the next one of the trace, and the request for which none is left is not made.
abbrev pub replay : Statements → Replay → Replay → Replay
replay end next leaves l es = next l es
replay (command c rest) next leaves l es = past_request l (λ _. replay rest next leaves l) es
replay (query x c rest) next leaves l es = past_request l (λ v. replay rest next leaves (slice_set l x v)) es
replay (assign x e rest) next leaves l es = replay rest next leaves (slice_set l x (expr_value l e)) es
replay (choose t has_else first other rest) next leaves l es =
    let later = replay rest next leaves in
    if test_value l t then replay first later leaves l es else replay other later leaves l es
replay (again n body rest) next leaves l es =
    let later = replay rest next leaves in turns_in n (λ turn. replay body turn later) later l es
replay (leave rest) next leaves l es = leaves l es

-- the block at a place of the order, from the variables at its entry
abbrev pub replayed : ProgramShape → Played → ℕ → Locals
replayed p run i =
    replay (text_of p (slice_index_or run.order i first_ticket)).body over over (slice_index_or run.entries i [])
    (slice_index_or run.traces i [])

-- the variables of a client after its last block among the first n of the order; all 0 where there is none
abbrev pub variables_by : ProgramShape → Played → ℕ → ℕ → Locals
variables_by p run zero c = zeros
variables_by p run (suc n) c =
    if (slice_index_or run.order n first_ticket).client == c then replayed p run n else variables_by p run n c

-- after its last block
abbrev pub variables_in : ProgramShape → Played → ℕ → Locals
variables_in p run c = variables_by p run (length run.order) c
