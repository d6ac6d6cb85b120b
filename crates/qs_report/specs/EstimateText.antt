-- How many configurations a search can have, as bytes.
use Rattle.std.specs.Prelude.{ℕ, List, ◌++◌, codes, Option, Some, None}
use Rattle.qs_outcomes.specs.declared.estimate.estimate.Estimate.{Estimate}
use Rattle.qs_text.specs.audit.Texts.{count_line}

-- at most so many, or a bound that is over the greatest that is told
abbrev pub most_line : Option ℕ → List ℕ
most_line (Some n) = count_line (codes "configurations at most") n
most_line None = codes "configurations may be over 1000000000000000000\n"

-- this, and how many there are at least where all that orders lead to are looked at
abbrev pub estimate_text : Estimate → List ℕ
estimate_text e = most_line e.most ++ count_line (codes "throughout at least") e.least
