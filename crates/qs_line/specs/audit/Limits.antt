-- The limits of a list of actors, of a number of runs, and of a search.
use Rattle.std.specs.Prelude.{ℕ}

-- how often one part may stand for its actor
abbrev pub most_repeats : ℕ
most_repeats = 1000000

-- actors of a list, each as often as its part says
abbrev pub most_actors : ℕ
most_actors = 1000000
