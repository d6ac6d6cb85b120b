-- What is known of the nodes while their sets are sought, and which nodes are left to visit.
use Rattle.std.specs.Prelude.{◌≡◌, ◌≢◌, ℕ, ◌+◌, ◌<◌, ◌^◌, ◌⊎◌, Bool, true, false, cond, List, [], ◌∷◌, ◌++◌, length, slice_index_or, slice_set, bit_and, All, Contains, sum_by}
use Rattle.qs_program.specs.audit.Limits.{most_handlers}
use Rattle.qs_graph.specs.audit.Nodes.{ControlGraph}
use Rattle.qs_objects.specs.ByteSets.{in_byte}
use Rattle.qs_syncset.specs.held.Bytes.{every_handler, size}
use Rattle.qs_syncset.specs.held.Flow.{Holding, AreWitnessed, IsAtEntry, IsPassedOn}

-- for each node whether it is reached, and the handlers that no path yet shows to be missing; and the worklist
pub record State : Type 0 where
  pub reached : List Bool
  pub sets : List ℕ
  pub list : List ℕ

abbrev pub state : List Bool → List ℕ → List ℕ → State
state reached sets list = record { reached = reached; sets = sets; list = list }

abbrev pub reached_at : State → ℕ → Bool
reached_at s n = slice_index_or s.reached n false

abbrev pub set_at : State → ℕ → ℕ
set_at s n = slice_index_or s.sets n every_handler

abbrev pub holding_of_node : State → ℕ → Holding
holding_of_node s n = in_byte (set_at s n)

abbrev pub unreached_count : Bool → ℕ
unreached_count r = cond r 0 1

-- how many more nodes can be taken from the list: those on it, and each node once as it is reached and once for each
-- handler that it loses
abbrev pub turns_left : State → ℕ
turns_left s = sum_by unreached_count s.reached + sum_by size s.sets + length s.list

-- what came to a node had come there before, so nothing changes
pub record IsUnchangedAt (old new : State) (to out : ℕ) : Type 0 where
  pub reached : reached_at old to ≡ true
  pub below : bit_and (set_at old to) out ≡ set_at old to
  pub same : new ≡ old

-- a node is first reached or loses handlers, and is put on the list
pub record IsPut (old new : State) (to out : ℕ) : Type 0 where
  pub in_range : set_at old to < 2 ^ most_handlers
  pub why : (reached_at old to ≡ false) ⊎ (bit_and (set_at old to) out ≢ set_at old to)
  pub reached : new.reached ≡ slice_set old.reached to true
  pub sets : new.sets ≡ slice_set old.sets to (bit_and (set_at old to) out)
  pub list : new.list ≡ old.list ++ to ∷ []

abbrev pub IsPassed : (old new : State) (to out : ℕ) → Type 0
IsPassed old new to out = IsUnchangedAt old new to out ⊎ IsPut old new to out

-- what is known is so: what is reached has a path, what is not held a path that shows it
pub record IsKnown (g : ControlGraph) (s : State) : Type 0 where
  pub each_reached : length s.reached ≡ length g.nodes
  pub each_set : length s.sets ≡ length g.nodes
  pub witnessed : AreWitnessed g (reached_at s) (holding_of_node s)
  pub entry : IsAtEntry (reached_at s) (holding_of_node s)
  pub listed : All (λ m. reached_at s m ≡ true) s.list

-- a node is on the list, or what goes out of it has come to each node that it leads to
abbrev pub IsSettled : ControlGraph → State → ℕ → Type 0
IsSettled g s m = Contains s.list m ⊎ IsPassedOn g (reached_at s) (holding_of_node s) m

-- between two visits each node that is reached is settled; so where the list is empty, everything is passed on
pub record IsWork (g : ControlGraph) (s : State) : Type 0 where
  pub known : IsKnown g s
  pub settled : (m : ℕ) → reached_at s m ≡ true → IsSettled g s m

-- x was taken from the list, so each but x is settled
pub record IsTaken (g : ControlGraph) (s : State) (x : ℕ) : Type 0 where
  pub known : IsKnown g s
  pub reached : reached_at s x ≡ true
  pub settled : (m : ℕ) → reached_at s m ≡ true → m ≢ x → IsSettled g s m
