-- What a run has to write, and its status.
use Rattle.std.specs.Prelude.{ℕ, List, ◌++◌}

-- a report, after the lines of its steps and before those of its queues
abbrev pub told_report : (steps queues report : List ℕ) → List ℕ
told_report steps queues report = steps ++ (report ++ queues)

-- no more of the input than this is read
abbrev pub longest : ℕ
longest = 65537
