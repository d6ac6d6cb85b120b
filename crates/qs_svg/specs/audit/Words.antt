-- What is said in words: of tickets, of objects, and of the whole run. Names are lower-case letters, digits and `_`
-- alone, so nothing in a picture has to be escaped.
use Rattle.std.specs.Prelude.{ℕ, ℤ, pos, suc, ◌+◌, ◌-◌, List, [], ◌∷◌, ◌++◌, codes, length, flat_map, slice_index_or, Bool, if◌then◌else◌, nat_eq, nat_le, nat_lt}
use Rattle.std.specs.Fmt.{signed_decimal}
use Rattle.std.specs.Ordering.{int_eq}
use Rattle.qs_objects.specs.audit.Act.{State}
use Rattle.qs_objects.specs.audit.Objects.{kind_of, values_of}
use Rattle.qs_objects.specs.audit.Operations.{word}
use Rattle.qs_objects.specs.declared.held.Entry.{Entry}
use Rattle.qs_objects.specs.declared.held.Ticket.{Ticket}
use Rattle.qs_objects.specs.declared.object.Kind.{Kind}
use Rattle.qs_objects.specs.declared.object.Kind.TheVariants as kinds
use Rattle.qs_program.specs.audit.Numbering.{Name}
use Rattle.qs_program.specs.audit.Program.{ProgramShape, client_at, object_at}
use Rattle.qs_program.specs.audit.Values.{Locals}
use Rattle.qs_played.specs.audit.Played.{Played}
use Rattle.qs_text.specs.declared.fates.fate.Fate.{Fate}
use Rattle.qs_text.specs.declared.fates.fate.Fate.TheVariants.{Done, Refused, NoValue}
use Rattle.qs_text.specs.audit.Words.{args_text, ended_text, reply_text, request_text}
use Rattle.qs_text.specs.audit.Texts.{spaced_value, texts_up_to}
use Rattle.qs_svg.specs.audit.Shapes.{with_number}
use Rattle.qs_svg.specs.audit.Stretches.{ended_at, journal_of, objects_at, ticket_at}

-- what became of a request, where it was not simply done
abbrev pub fate_words : Fate → List ℕ
fate_words Done = []
fate_words Refused = codes " refused"
fate_words NoValue = codes " none"

-- a request with its reply, as in a report, and what became of it
abbrev pub entry_words : ProgramShape → Entry → Fate → List ℕ
entry_words p e fate = request_text p e.request ++ reply_text e.reply ++ fate_words fate

-- the same in the row of its object, whose name is left out
abbrev pub gap_words : (args : ℕ) → List ℕ
gap_words args = if nat_eq args 0 then [] else codes " "

abbrev pub args_words : List ℤ → List ℕ
args_words args = gap_words (length args) ++ args_text args

abbrev pub line_words : Entry → Fate → List ℕ
line_words e fate = word e.request.op ++ args_words e.request.args ++ reply_text e.reply ++ fate_words fate

-- so many things
abbrev pub counted : ℕ → (word : List ℕ) → List ℕ
counted n word = with_number (codes "") n ++ word ++ (if nat_eq n 1 then [] else codes "s")

-- what an object holds, with as many of its values as have room in so many characters, each with one that parts it from
-- the next
abbrev pub value_room : ℕ
value_room = 13

abbrev pub value_size : ℤ → ℕ
value_size z = length (signed_decimal z) + 1

abbrev pub told_in : (room : ℕ) → List ℤ → ℕ
told_in room [] = 0
told_in room (z ∷ zs) = if nat_le (value_size z) room then suc (told_in (room - value_size z) zs) else 0

-- the end of a list of so many values, of which so many are told
abbrev pub values_end : (told values : ℕ) → List ℕ
values_end told n = if nat_lt told n then codes " ..]" else codes "]"

abbrev pub values_words : List ℤ → List ℕ
values_words values =
    codes "[" ++ texts_up_to (told_in value_room values) (spaced_value values)
    ++ values_end (told_in value_room values) (length values)

abbrev pub with_integer : List ℕ → ℤ → List ℕ
with_integer word z = word ++ signed_decimal z

abbrev pub content_words : Kind → List ℤ → List ℕ
content_words (kinds.Account balance) values = signed_decimal balance
content_words (kinds.Buffer capacity) values = values_words values
content_words (kinds.Grid rows columns) values = values_words values

-- and how many commands it refused, where it refused some
abbrev pub refused_words : ℤ → List ℕ
refused_words n = if int_eq n (pos 0) then [] else with_integer (codes ", refused ") n

abbrev pub state_words : State → List ℕ
state_words s = content_words (kind_of s.content) (values_of s.content) ++ refused_words s.refused

-- a kind with its numbers, as it is declared, and how many requests there are
abbrev pub kind_words : Kind → List ℕ
kind_words (kinds.Account balance) = with_integer (codes "account ") balance
kind_words (kinds.Buffer capacity) = with_integer (codes "buffer ") capacity
kind_words (kinds.Grid rows columns) = with_integer (codes "grid ") rows ++ with_integer (codes " ") columns

abbrev pub declared_words : Kind → (requests : ℕ) → List ℕ
declared_words kind n = kind_words kind ++ codes ", " ++ counted n (codes " request")

-- a client with its variables at the end, in the order of their first appearance
abbrev pub before_variable : ℕ → List ℕ
before_variable x = if nat_eq x 0 then codes " ends with " else codes ", "

abbrev pub variable_words : List Name → Locals → ℕ → List ℕ
variable_words names l x =
    before_variable x ++ slice_index_or names x [] ++ with_integer (codes " = ") (slice_index_or l x (pos 0))

abbrev pub client_words : ProgramShape → ℕ → Locals → List ℕ
client_words p c l =
    (client_at p c).name ++ texts_up_to (length (client_at p c).variables) (variable_words (client_at p c).variables l)

-- a ticket
abbrev pub ticket_words : ProgramShape → Ticket → List ℕ
ticket_words p t = (client_at p t.client).name ++ with_number (codes " ") t.index

-- a ticket, and whether its block has ended
abbrev pub block_words : ProgramShape → Ticket → Bool → List ℕ
block_words p t ended = ticket_words p t ++ codes " " ++ ended_text ended

-- how many requests an object ran for a ticket
abbrev pub stretch_words : ProgramShape → Ticket → (object requests : ℕ) → List ℕ
stretch_words p t object requests =
    ticket_words p t ++ codes " on " ++ (object_at p object).name ++ with_number (codes ": requests ") requests

-- a ticket with the objects that its block reserves
abbrev pub reserved_words : ProgramShape → List ℕ → List ℕ
reserved_words p objects = flat_map (λ h. codes " " ++ (object_at p h).name) objects

abbrev pub ticket_told : ProgramShape → Played → ℕ → List ℕ
ticket_told p run i =
    codes " " ++ block_words p (ticket_at run i) (ended_at run i) ++ codes " on" ++ reserved_words p (objects_at run i)
    ++ codes ";"

-- an object with the number of its requests
abbrev pub object_told : ProgramShape → Played → ℕ → List ℕ
object_told p run h =
    codes " " ++ (object_at p h).name ++ with_number (codes " ") (length (journal_of run h)) ++ codes ";"

-- the title, and the description for those who cannot see the picture
abbrev pub finished_words : Bool → List ℕ
finished_words finished = if finished then codes ", finished" else codes ", unfinished"

abbrev pub title_words : ProgramShape → Played → List ℕ
title_words p run =
    with_number (codes "A run of separate blocks: blocks ") (length run.order)
    ++ with_number (codes ", objects ") (length p.objects)
    ++ with_number (codes ", synchronisations ") run.syncs ++ finished_words run.finished

abbrev pub description : ProgramShape → Played → List ℕ
description p run =
    codes "A row for each object, with the requests that it ran from left to right. A column for each block, in the order of the reservations. Blocks:"
    ++ texts_up_to (length run.order) (ticket_told p run)
    ++ codes " Requests:"
    ++ texts_up_to (length p.objects) (object_told p run)
