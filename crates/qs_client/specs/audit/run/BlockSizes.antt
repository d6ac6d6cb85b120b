-- What the blocks of a code need: room for the traces, and a count for each repeat of the longest graph.
use Rattle.std.specs.Prelude.{ℕ, List, [], ◌∷◌, length, max}
use Rattle.qs_syncset.specs.audit.Codes.{BlockCode}

-- how many nodes the longest graph has
abbrev pub longest : List BlockCode → ℕ
longest [] = 0
longest (b ∷ bs) = max (length b.graph) (longest bs)
