-- Beside what the headline reaches (`audit/Objects.antt`): what else contracts and proofs use.
use Rattle.std.specs.Prelude.{◌≡◌, ℕ, zero, suc, ◌+◌, ◌≤◌, ◌*◌, take, drop, [], ◌∷◌, Bool, true, false, List, length, Vec, vec_len, ℤ, pos, ◌≤ℤ◌}
use Rattle.std.specs.Global.{Global}
use Rattle.std.specs.VecDeque.{deque_capacity}
use Rattle.std.specs.declared.collections.VecDeque.{VecDeque}
use Rattle.qs_objects.specs.audit.Act.{State, Content, account, buffer, grid, greatest_balance, size_of}
use Rattle.qs_objects.specs.declared.object.Kind.{Kind}
use Rattle.qs_objects.specs.declared.object.Kind.TheVariants as kinds
use Rattle.qs_objects.specs.declared.object.Content as code
use Rattle.qs_objects.specs.declared.object.Content.TheVariants.{Account, Buffer, Grid}
use Rattle.qs_objects.specs.audit.Limits.{most_lines, most_values}

-- The code keeps a grid's rows one after another in one list: so many rows of k cells each.
abbrev pub cut_rows : ℕ → ℕ → List ℤ → List (List ℤ)
cut_rows zero k cells = []
cut_rows (suc n) k cells = take k cells ∷ cut_rows n k (drop k cells)

-- the place of the cell in row r and column c in that list
abbrev pub place : ℕ → ℤ → ℤ → ℕ
place k r c = size_of r * k + size_of c

abbrev pub state_of : code.Content → ℤ → State
state_of (Account b) n = record { content = account b; refused = n }
state_of (Buffer v) n = record { content = buffer (deque_capacity v) v.items; refused = n }
state_of (Grid r c v) n = record { content = grid c (cut_rows r c v.items); refused = n }

-- a balance in its range
abbrev pub IsBalance : ℤ → Type 0
IsBalance b = (pos 0 ≤ℤ b) × (b ≤ℤ greatest_balance)

abbrev pub account_state : ℤ → ℤ → State
account_state b n = record { content = account b; refused = n }

-- a buffer's values lie in a ring whose size is its capacity, from 1 to 1024 values
abbrev pub IsRoomy : VecDeque ℤ Global → Type 0
IsRoomy v = (1 ≤ deque_capacity v) × (deque_capacity v ≤ most_values)

abbrev pub buffer_state : ℕ → List ℤ → ℤ → State
buffer_state k xs n = record { content = buffer k xs; refused = n }

-- all cells of a grid, from 1 to 16 rows and columns
abbrev pub IsFull : ℕ → ℕ → Vec ℤ Global → Type 0
IsFull r c v = (vec_len v ≡ r * c) × (1 ≤ r) × (r ≤ most_lines) × (1 ≤ c) × (c ≤ most_lines)

abbrev pub grid_state : ℕ → ℕ → List ℤ → ℤ → State
grid_state r c cells n = record { content = grid c (cut_rows r c cells); refused = n }

-- what the code keeps true of what it holds
abbrev pub KeepsContent : code.Content → Type 0
KeepsContent (Account b) = IsBalance b
KeepsContent (Buffer v) = IsRoomy v
KeepsContent (Grid r c v) = IsFull r c v

-- an account needs no memory of its own
abbrev pub needs_memory : Kind → Bool
needs_memory (kinds.Account b) = false
needs_memory _ = true

abbrev pub has_memory : Content → Bool
has_memory (account b) = false
has_memory _ = true

-- rows of so many cells each
abbrev pub AreRowsOf : ℕ → List (List ℤ) → Type 0
AreRowsOf k [] = Unit {0}
AreRowsOf k (row ∷ rows) = (length row ≡ k) × AreRowsOf k rows

-- what an object may hold: a balance in its range; at most as many values as the capacity;
-- rows of as many cells as there are columns
abbrev pub IsInRange : Content → Type 0
IsInRange (account b) = IsBalance b
IsInRange (buffer k xs) = (1 ≤ k) × (k ≤ most_values) × (length xs ≤ k)
IsInRange (grid k rows) =
    (1 ≤ length rows) × (length rows ≤ most_lines) × (1 ≤ k) × (k ≤ most_lines) × AreRowsOf k rows
