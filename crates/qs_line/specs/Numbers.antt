-- Lists of actors or of clients by number alone: each is read as these, and names them in every program, whatever names
-- this has.
use Rattle.std.specs.Prelude.{◌≡◌, ◌≤◌, ◌==◌, ℕ, List, [], ◌∷◌, length, map, Option, Some, Ok, option_map, option_and_then}
use Rattle.std.specs.List.{slice_split}
use Rattle.qs_played.specs.declared.schedule.actor.Actor.{Actor}
use Rattle.qs_played.specs.declared.schedule.actor.Actor.TheVariants.{Client}
use Rattle.qs_program.specs.audit.Program.{ProgramShape}
use Rattle.qs_line.specs.audit.Limits.{most_actors}
use Rattle.qs_line.specs.audit.Named.{actors_of, clients_of}
use Rattle.qs_line.specs.audit.Parts.{actor_in, clients_in, list_in, once}

-- the actors of some texts, where each is an actor by its number
abbrev pub numbers_of : List (List ℕ) → Option (List Actor)
numbers_of [] = Some []
numbers_of (text ∷ texts) =
    option_and_then (λ actor. option_map (λ actors. actor ∷ actors) (numbers_of texts)) (actor_in text)

abbrev pub NumbersStay : Type 0
NumbersStay = (p : ProgramShape) (text : List ℕ) (actors : List Actor)
    → numbers_of (slice_split (λ byte. byte == 44) text) ≡ Some actors → length actors ≤ most_actors
    → (list_in text ≡ Some (map once actors)) × (actors_of p (map once actors) ≡ Ok actors)

-- the same of a list of clients
abbrev pub ClientNumbersStay : Type 0
ClientNumbersStay = (p : ProgramShape) (text clients : List ℕ)
    → numbers_of (slice_split (λ byte. byte == 44) text) ≡ Some (map Client clients) → length clients ≤ most_actors
    → (clients_in text ≡ Some (map once (map Client clients)))
    × (clients_of p (map once (map Client clients)) ≡ Ok clients)
