use Rattle.std.proofs.Common.{◌≡◌, ◌++◌, take}
use Rattle.qs_standings.specs.Standings.{named_from}
use Rattle.qs_standings.proofs.rows.add_locals.Given as goal

abbrev pub invariant-loop-client : goal.invariant-loop-client
invariant-loop-client l = l.row.items ≡ l.initial.row.items ++ named_from l.program 0 (take l.client l.locals)
