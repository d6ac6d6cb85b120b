-- What the threads that lead a level on have found, and how it is kept: who was led by which lead and goes on from there
-- in one list, and the standings in another; and a level as places in several such lists.
use Rattle.std.specs.Prelude.{◌<◌, ℕ, List, [], ◌∷◌, length, map, slice_index_or}
use Rattle.qs_standings.specs.Standings.{StandingShape}
use Rattle.qs_levels.specs.declared.level.Going.{Going}
use Rattle.qs_levels.specs.declared.level.Spot.{Spot}
use Rattle.qs_levels.specs.declared.table.Lead.{Lead}
use Rattle.qs_levels.specs.declared.table.Mark.{Mark}

-- a lead, where it leads, and who goes on from there
pub record Found : Type 0 where
  pub lead : Lead
  pub standing : StandingShape
  pub going : ℕ

abbrev pub found_of : Mark → StandingShape → Found
found_of m s = record { lead = m.lead; standing = s; going = m.going }

-- marks and standings, place by place
abbrev pub zipped : List Mark → List StandingShape → List Found
zipped [] ss = []
zipped (m ∷ ms) [] = []
zipped (m ∷ ms) (s ∷ ss) = found_of m s ∷ zipped ms ss

abbrev pub found_in : List Found → List StandingShape
found_in fs = map (λ (f : Found). f.standing) fs

-- nobody stands there
abbrev pub no_standing : StandingShape
no_standing = record { order = []; begun = []; locals = []; states = [] }

abbrev pub no_found : Found
no_found = record { lead = record { source = 0; client = 0 }; standing = no_standing; going = 0 }

-- standings, and who goes on from each
pub record LevelShape : Type 0 where
  pub standings : List StandingShape
  pub going : List Going

abbrev pub standing_at : List (List Found) → Spot → StandingShape
standing_at parts s = (slice_index_or (slice_index_or parts s.part []) s.place no_found).standing

-- the part is there, and has that place
pub record IsSpot (parts : List (List Found)) (s : Spot) : Type 0 where
  pub part : s.part < length parts
  pub place : s.place < length (slice_index_or parts s.part [])

abbrev pub level_in : List (List Found) → List Spot → LevelShape
level_in parts spots = record { standings = map (standing_at parts) spots; going = map (λ (s : Spot). s.going) spots }
