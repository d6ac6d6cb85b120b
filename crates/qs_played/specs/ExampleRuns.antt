-- What the worked runs of every machine are compared by: the replies of each reservation, and accounts with their
-- balances.
use Rattle.std.specs.Prelude.{ℕ, pos}
use Rattle.qs_objects.specs.audit.Act.{State, account}
use Rattle.qs_meaning.specs.MeaningExamples.{left_with}

abbrev pub holding : ℕ → State
holding n = left_with (account (pos n)) 0
