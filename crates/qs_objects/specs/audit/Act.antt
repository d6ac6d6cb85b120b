-- What an object does with a request: plain records, and one table for each kind of object.
use Rattle.std.specs.Prelude.{ℕ, Bool, false, ◌||◌, ◌&&◌, not, if◌then◌else◌, nat_lt, nat_le, nat_eq, List, [], ◌∷◌, ◌++◌, length, drop, replicate, slice_index_or, slice_set, Option, Some, None}
use Rattle.std.specs.Prelude.{ℤ, pos, negsuc, ◌+ℤ◌, ◌-ℤ◌, int_lt}
use Rattle.std.specs.Int.{saturate_signed, w64}
use Rattle.qs_objects.specs.declared.Op.{Op}
use Rattle.qs_objects.specs.declared.Op.TheVariants.{Deposit, Withdraw, Balance, Refused, Put, DropFirst, TakeFirst, First, Size, SetCell, AddCell, Fill, GetCell, RowSum}

-- what an object holds beside its counter: a balance, a capacity and a list, or rows of so many cells each
pub data Content : Type 0 where
  account : (balance : ℤ) → Content
  buffer : (capacity : ℕ) → (values : List ℤ) → Content
  grid : (columns : ℕ) → (rows : List (List ℤ)) → Content

-- an object, with the number of commands that it refused
pub record State : Type 0 where
  pub content : Content
  pub refused : ℤ

-- the state after a request, and the reply of a query
abbrev pub ActResult : Type 0
ActResult = State × Option ℤ

-- an exact number, clamped to the range of 64 bits
abbrev pub clamp_to_word : ℤ → ℤ
clamp_to_word z = saturate_signed w64 z

abbrev pub greatest_balance : ℤ
greatest_balance = pos 1000000000000000

-- nothing happens
abbrev pub ignoring : State → ActResult
ignoring s = (s, None)

-- a command that can't be done: it is counted
abbrev pub refusing : State → ActResult
refusing s = (record { content = s.content; refused = clamp_to_word (s.refused +ℤ pos 1) }, None)

-- a command that is done
abbrev pub becoming : State → Content → ActResult
becoming s c = (record { content = c; refused = s.refused }, None)

-- a query that changes nothing
abbrev pub replying : State → ℤ → ActResult
replying s z = (s, Some z)

-- a command that is done unless the test holds
abbrev pub unless : Bool → State → Content → ActResult
unless impossible s c = if impossible then refusing s else becoming s c

-- what an account with balance b does
abbrev pub account_act : State → ℤ → Op → List ℤ → ActResult
account_act s b Deposit (n ∷ []) = unless (int_lt n (pos 0) || int_lt greatest_balance (b +ℤ n)) s (account (b +ℤ n))
account_act s b Withdraw (n ∷ []) = unless (int_lt n (pos 0) || int_lt b n) s (account (b -ℤ n))
account_act s b Balance [] = replying s b
account_act s b Refused [] = replying s s.refused
account_act s b _ _ = ignoring s

abbrev pub first_or_zero : List ℤ → ℤ
first_or_zero [] = pos 0
first_or_zero (x ∷ xs) = x

-- what a buffer of capacity k with values xs does
abbrev pub buffer_act : State → ℕ → List ℤ → Op → List ℤ → ActResult
buffer_act s k xs Put (n ∷ []) = unless (nat_le k (length xs)) s (buffer k (xs ++ n ∷ []))
buffer_act s k xs DropFirst [] = unless (nat_eq (length xs) 0) s (buffer k (drop 1 xs))
buffer_act s k xs TakeFirst [] =
    (record { content = buffer k (drop 1 xs); refused = s.refused }, Some (first_or_zero xs))
buffer_act s k xs First [] = replying s (first_or_zero xs)
buffer_act s k xs Size [] = replying s (pos (length xs))
buffer_act s k xs Refused [] = replying s s.refused
buffer_act s k xs _ _ = ignoring s

-- a number from 0 up to n
abbrev pub below : ℤ → ℕ → Bool
below (pos i) n = nat_lt i n
below (negsuc i) n = false

abbrev pub size_of : ℤ → ℕ
size_of (pos i) = i
size_of (negsuc i) = 0

abbrev pub exact_sum : List ℤ → ℤ
exact_sum [] = pos 0
exact_sum (x ∷ xs) = x +ℤ exact_sum xs

-- of n rows with k cells each there is no cell in row r and column c
abbrev pub outside : ℕ → ℕ → ℤ → ℤ → Bool
outside n k r c = not (below r n && below c k)

abbrev pub row_at : List (List ℤ) → ℤ → List ℤ
row_at rows r = slice_index_or rows (size_of r) []

abbrev pub cell_at : List (List ℤ) → ℤ → ℤ → ℤ
cell_at rows r c = slice_index_or (row_at rows r) (size_of c) (pos 0)

-- with another number in the cell of row r and column c
abbrev pub with_cell : List (List ℤ) → ℤ → ℤ → ℤ → List (List ℤ)
with_cell rows r c v = slice_set rows (size_of r) (slice_set (row_at rows r) (size_of c) v)

-- what a grid with k columns and these rows does
abbrev pub grid_act : State → ℕ → List (List ℤ) → Op → List ℤ → ActResult
grid_act s k rows SetCell (r ∷ c ∷ v ∷ []) = unless (outside (length rows) k r c) s (grid k (with_cell rows r c v))
grid_act s k rows AddCell (r ∷ c ∷ v ∷ []) =
    unless (outside (length rows) k r c) s (grid k (with_cell rows r c (clamp_to_word (cell_at rows r c +ℤ v))))
grid_act s k rows Fill (v ∷ []) = becoming s (grid k (replicate (length rows) (replicate k v)))
grid_act s k rows GetCell (r ∷ c ∷ []) =
    replying s (if outside (length rows) k r c then pos 0 else cell_at rows r c)
grid_act s k rows RowSum (r ∷ []) =
    replying s (if below r (length rows) then clamp_to_word (exact_sum (row_at rows r)) else pos 0)
grid_act s k rows Refused [] = replying s s.refused
grid_act s k rows _ _ = ignoring s

abbrev pub act_by : Content → State → Op → List ℤ → ActResult
act_by (account b) s op args = account_act s b op args
act_by (buffer k xs) s op args = buffer_act s k xs op args
act_by (grid k rows) s op args = grid_act s k rows op args

-- the state after a request, and its reply
abbrev pub act : State → Op → List ℤ → ActResult
act s op args = act_by s.content s op args
