-- How many nodes a walk takes.
use Rattle.std.specs.Prelude.{ℕ}

-- no walk through a block of a checked program takes more nodes than this
unfoldable pub limit : ℕ
limit = 3000002
