use Rattle.qs_standings.proofs.going.GoingSets.{RowsUpTo}
use Rattle.qs_standings.proofs.going.going.all_comers.Given as goal

abbrev pub invariant-loop-client : goal.invariant-loop-client
invariant-loop-client l = RowsUpTo l.program l.begun l.rows l.client
