-- The table of the operations: their words, which are queries, how many numbers they take, and which kinds have them.
use Rattle.std.specs.Prelude.{ℕ, Bool, true, false, List, [], ◌∷◌, codes, filter}
use Rattle.qs_objects.specs.declared.Op.{Op}
use Rattle.qs_objects.specs.declared.Op.TheVariants.{Deposit, Withdraw, Balance, Refused, Put, DropFirst, TakeFirst, First, Size, SetCell, AddCell, Fill, GetCell, RowSum}
use Rattle.qs_objects.specs.declared.object.Kind.{Kind}
use Rattle.qs_objects.specs.declared.object.Kind.TheVariants as kinds

-- the operations, each once; those of a kind stand in the order in which a reader is told of them
abbrev pub all_operations : List Op
all_operations =
    Deposit ∷ Withdraw ∷ Balance
    ∷ Put ∷ DropFirst ∷ TakeFirst ∷ First ∷ Size
    ∷ SetCell ∷ AddCell ∷ Fill ∷ GetCell ∷ RowSum
    ∷ Refused ∷ []

-- the word of an operation in scripts and reports
abbrev pub word : Op → List ℕ
word Deposit = codes "deposit"
word Withdraw = codes "withdraw"
word Balance = codes "balance"
word Refused = codes "refused"
word Put = codes "put"
word DropFirst = codes "drop"
word TakeFirst = codes "take"
word First = codes "front"
word Size = codes "size"
word SetCell = codes "set"
word AddCell = codes "add"
word Fill = codes "fill"
word GetCell = codes "get"
word RowSum = codes "row"

-- a query answers; every other operation is a command
abbrev pub is_query : Op → Bool
is_query Balance = true
is_query Refused = true
is_query TakeFirst = true
is_query First = true
is_query Size = true
is_query GetCell = true
is_query RowSum = true
is_query _ = false

-- how many numbers an operation takes
abbrev pub arity : Op → ℕ
arity Deposit = 1
arity Withdraw = 1
arity Put = 1
arity SetCell = 3
arity AddCell = 3
arity Fill = 1
arity GetCell = 2
arity RowSum = 1
arity _ = 0

abbrev pub is_of_account : Op → Bool
is_of_account Deposit = true
is_of_account Withdraw = true
is_of_account Balance = true
is_of_account Refused = true
is_of_account _ = false

abbrev pub is_of_buffer : Op → Bool
is_of_buffer Put = true
is_of_buffer DropFirst = true
is_of_buffer TakeFirst = true
is_of_buffer First = true
is_of_buffer Size = true
is_of_buffer Refused = true
is_of_buffer _ = false

abbrev pub is_of_grid : Op → Bool
is_of_grid SetCell = true
is_of_grid AddCell = true
is_of_grid Fill = true
is_of_grid GetCell = true
is_of_grid RowSum = true
is_of_grid Refused = true
is_of_grid _ = false

-- the operations of a kind
abbrev pub operations_of : Kind → List Op
operations_of (kinds.Account b) = filter is_of_account all_operations
operations_of (kinds.Buffer k) = filter is_of_buffer all_operations
operations_of (kinds.Grid n k) = filter is_of_grid all_operations
