-- The actors that a list names in a program, or which of its parts is at fault and why.
use Rattle.std.specs.Prelude.{ℕ, suc, List, [], ◌∷◌, ◌++◌, replicate, Option, Some, None, Result, Ok, Err}
use Rattle.std.specs.List.{position_from}
use Rattle.qs_played.specs.declared.schedule.actor.Actor.{Actor}
use Rattle.qs_played.specs.declared.schedule.actor.Actor.TheVariants.{Client, Handler}
use Rattle.qs_program.specs.declared.program.Declared.{Declared}
use Rattle.qs_program.specs.audit.Numbering.{same_name}
use Rattle.qs_program.specs.audit.Program.{ClientShape, ProgramShape}
use Rattle.qs_line.specs.declared.parts.Part.{Part}
use Rattle.qs_line.specs.declared.parts.Who.{Who}
use Rattle.qs_line.specs.declared.parts.Who.TheVariants as who
use Rattle.qs_line.specs.declared.fault.Why.{Why}
use Rattle.qs_line.specs.declared.fault.Why.TheVariants.{Unknown, Both, NoClient}
use Rattle.qs_line.specs.declared.fault.ListFault.{ListFault}
use Rattle.qs_line.specs.declared.fault.ListFault.TheVariants as fault

-- the number of the client of a name
abbrev pub client_called : ProgramShape → List ℕ → Option ℕ
client_called p n = position_from (λ (c : ClientShape). same_name n c.name) 0 p.clients

-- the number of the object of a name
abbrev pub object_called : ProgramShape → List ℕ → Option ℕ
object_called p n = position_from (λ (o : Declared). same_name n o.name) 0 p.objects

-- a name is a client's or an object's, and not both
abbrev pub one_of : Option ℕ → Option ℕ → Result Actor Why
one_of (Some c) None = Ok (Client c)
one_of None (Some h) = Ok (Handler h)
one_of (Some c) (Some h) = Err Both
one_of None None = Err Unknown

-- the actor of a part: by its number whoever it is, and by its name one of the program
abbrev pub actor_of : ProgramShape → Who → Result Actor Why
actor_of p (who.Number actor) = Ok actor
actor_of p (who.Name n) = one_of (client_called p n) (object_called p n)

abbrev pub only_client : Result Actor Why → Result ℕ Why
only_client (Ok (Client c)) = Ok c
only_client (Ok (Handler h)) = Err NoClient
only_client (Err why) = Err why

-- the client of a part
abbrev pub named_client : ProgramShape → Who → Result ℕ Why
named_client p w = only_client (actor_of p w)

-- after these, the others of the list, or its fault
abbrev pub before : {A : Type 0} → List A → Result (List A) ListFault → Result (List A) ListFault
before xs (Ok ys) = Ok (xs ++ ys)
before xs (Err f) = Err f

-- one who stands in the list so often, or that the part at this place is at fault
abbrev pub repeated : {A : Type 0} → ℕ → Result A Why → ℕ → Result (List A) ListFault → Result (List A) ListFault
repeated count (Ok x) place rest = before (replicate count x) rest
repeated count (Err why) place rest = Err (fault.Part place why)

-- part by part, from a place on
module _ {A : Type 0} (one : Who → Result A Why) where
  abbrev pub listed_from : ℕ → List Part → Result (List A) ListFault
  listed_from place [] = Ok []
  listed_from place (part ∷ parts) = repeated part.count (one part.who) place (listed_from (suc place) parts)

-- all actors of a list in order, or the first part at fault
abbrev pub actors_of : ProgramShape → List Part → Result (List Actor) ListFault
actors_of p parts = listed_from (actor_of p) 0 parts

-- the same of a list of clients
abbrev pub clients_of : ProgramShape → List Part → Result (List ℕ) ListFault
clients_of p parts = listed_from (named_client p) 0 parts
