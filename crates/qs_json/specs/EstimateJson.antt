-- How many configurations a search can have: one object on a line.
use Rattle.std.specs.Prelude.{ℕ, List, ◌++◌, codes, decimal, Option, Some, None}
use Rattle.qs_outcomes.specs.declared.estimate.estimate.Estimate.{Estimate}
use Rattle.qs_json.specs.audit.Pieces.{field, first_field}

-- a bound; null where it is over the greatest that is told
abbrev pub bound_or_null : Option ℕ → List ℕ
bound_or_null (Some n) = decimal n
bound_or_null None = codes "null"

-- at most so many, and at least so many where all that orders lead to are looked at
abbrev pub estimate_json : Estimate → List ℕ
estimate_json e =
    first_field (codes "configurations_at_most") (bound_or_null e.most)
    ++ field (codes "throughout_at_least") (decimal e.least) ++ codes "}\n"
