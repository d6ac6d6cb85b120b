-- What a search is made for, and what one step of it finds.
use Rattle.std.specs.Prelude.{◌≡◌, ℕ, Bool, true, false, List, Option, Some, None}
use Rattle.qs_program.specs.audit.Program.{ProgramShape}
use Rattle.qs_alike.specs.Changes.{AreAlone, AreClasses, Classes}
use Rattle.qs_alike.specs.Followed.{Orders}
use Rattle.qs_alike.specs.Keys.{IsKey, IsPlacedAs}
use Rattle.qs_alike.specs.Texts.{classes_in}
use Rattle.qs_meaning.specs.Configurations.{OrderOutcome}
use Rattle.qs_meaning.specs.Reduced.{goes_on}
use Rattle.qs_outcomes.specs.declared.search.Search.{Search}
use Rattle.qs_outcomes.specs.Reached.{HasMore}
use Rattle.qs_outcomes.specs.Search.{IsExplored}
use Rattle.qs_outcomes.specs.throughout.Walked.{HasWalked, IsGoingOn}
use Rattle.qs_standings.specs.going.Going.{AreLast, in_byte}
use Rattle.qs_standings.specs.Lists.{HasOne}
use Rattle.qs_standings.specs.Rows.{AreStarts}
use Rattle.qs_standings.specs.Standings.{IsOneOn, RowShape, StandingShape, configuration_in, row_of}

-- what is found out once: whether nobody changes places, and what tells who goes on and how rows are written
pub record IsPrepared (p : ProgramShape) (k : Classes) (alone : Bool) (lasts : List (List ℕ)) (places : List ℕ) : Type 0 where
  pub classes : AreClasses p k
  pub none : alone ≡ true → AreAlone k
  pub last : AreLast p lasts
  pub starts : AreStarts p places

-- What is written of a standing before its next blocks are run: its key; its row, where nobody changes places; and else
-- itself with the places of each class in order.
abbrev pub IsWritten : ProgramShape → Classes → (alone : Bool) → StandingShape → (base : RowShape) → (copy : StandingShape)
    → Type 0
IsWritten p k alone s base copy =
    IsKey p k s base × (alone ≡ true → base ≡ row_of p s) × (alone ≡ false → IsPlacedAs p k s copy)

-- who goes on with the places of each class in order
abbrev pub AreGoing : ProgramShape → (alone : Bool) → StandingShape → (copy : StandingShape) → (goes : ℕ) → Type 0
AreGoing p alone s copy goes =
    (alone ≡ true → in_byte goes ≡ goes_on p (configuration_in s).begun)
    × (alone ≡ false → in_byte goes ≡ goes_on p (configuration_in copy).begun)

-- Where a client's next block leads, unless its key was seen; and this key.
abbrev pub IsLed : ProgramShape → Classes → List RowShape → StandingShape → (client : ℕ) → (key : RowShape)
    → Option StandingShape → Type 0
IsLed p k rows s c key (Some n) = IsOneOn p s c n × IsKey p k n key
IsLed p k rows s c key None = (n : StandingShape) × IsOneOn p s c n × HasOne (IsKey p k n) rows

-- ---- the same of a search, by what it is made for

abbrev pub classes_of : Search → Classes
classes_of search = classes_in search.classes.now

abbrev pub IsReady : Search → Type 0
IsReady search = IsPrepared search.program.now (classes_of search) search.alone search.last.items search.starts.items

abbrev pub IsWrittenIn : Search → StandingShape → (base : RowShape) → (copy : StandingShape) → Type 0
IsWrittenIn search = IsWritten search.program.now (classes_of search) search.alone

abbrev pub HasMoreIn : Search → Orders → Type 0
HasMoreIn search o = HasMore search.program.now (classes_of search) o search.front.now search.limit

abbrev pub IsExploredIn : Search → List RowShape → (ahead found : List StandingShape) → Type 0
IsExploredIn search = IsExplored search.program.now (classes_of search) search.front.now

abbrev pub HasWalkedIn : Search → (OrderOutcome → Bool) → List RowShape → (waiting : List StandingShape) → Type 0
HasWalkedIn search = HasWalked search.program.now (classes_of search) search.front.now search.limit

abbrev pub IsGoingOnIn : Search → (OrderOutcome → Bool) → List RowShape → StandingShape → (client : ℕ)
    → (waiting : List StandingShape) → Type 0
IsGoingOnIn search = IsGoingOn search.program.now (classes_of search) search.front.now search.limit
