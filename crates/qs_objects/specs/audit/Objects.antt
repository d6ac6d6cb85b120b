-- What an object of the code shows, and which objects there are at the start.
use Rattle.std.specs.Prelude.{ℕ, ◌&&◌, [], ◌∷◌, replicate, nat_le, if◌then◌else◌, Bool, false, Option, Some, None, List, length}
use Rattle.std.specs.Prelude.{ℤ, pos, negsuc}
use Rattle.qs_objects.specs.audit.Act.{State, Content, account, buffer, grid, size_of}
use Rattle.qs_objects.specs.declared.object.Kind.{Kind}
use Rattle.qs_objects.specs.declared.object.Kind.TheVariants as kinds
use Rattle.qs_objects.specs.declared.object.Content.TheVariants.{Account, Buffer, Grid}
use Rattle.qs_objects.specs.audit.Limits.{most_lines, most_values}
use Rattle.qs_objects.specs.audit.Rows.{join_rows}

-- a number from low to high
abbrev pub between : ℕ → ℤ → ℕ → Bool
between low (pos n) high = nat_le low n && nat_le n high
between low (negsuc n) high = false

abbrev pub fresh : Content → State
fresh c = record { content = c; refused = pos 0 }

-- a new object, where the numbers of its kind are in range
abbrev pub starts : Kind → Option State
starts (kinds.Account b) = if between 0 b 1000000000000000 then Some (fresh (account b)) else None
starts (kinds.Buffer k) = if between 1 k most_values then Some (fresh (buffer (size_of k) [])) else None
starts (kinds.Grid n k) =
    if between 1 n most_lines && between 1 k most_lines
    then Some (fresh (grid (size_of k) (replicate (size_of n) (replicate (size_of k) (pos 0)))))
    else None

-- an account's kind has its balance now
abbrev pub kind_of : Content → Kind
kind_of (account b) = kinds.Account b
kind_of (buffer k xs) = kinds.Buffer (pos k)
kind_of (grid k rows) = kinds.Grid (pos (length rows)) (pos k)

-- an account's balance, a buffer's values from the front, or a grid's cells row by row
abbrev pub values_of : Content → List ℤ
values_of (account b) = b ∷ []
values_of (buffer k xs) = xs
values_of (grid k rows) = join_rows rows
