-- How many blocks the clients have begun in all, where a block of each client counts for something of its own.
use Rattle.std.specs.Prelude.{◌+◌, ◌*◌, ℕ, zero, suc}
use Rattle.qs_meaning.specs.audit.Reduced.{Counts}

-- the blocks that the clients below n have begun, where each block of a client counts for so much
abbrev pub weighted : (ℕ → ℕ) → ℕ → Counts → ℕ
weighted w zero begun = 0
weighted w (suc n) begun = weighted w n begun + begun n * w n
