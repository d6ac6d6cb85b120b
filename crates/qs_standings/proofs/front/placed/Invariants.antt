use Rattle.std.specs.Prelude.{drop}
use Rattle.qs_standings.proofs.Fronts.{IsPlacedSoFar}
use Rattle.qs_standings.proofs.front.placed.Given as goal

abbrev pub invariant-loop-client : goal.invariant-loop-client
invariant-loop-client l = IsPlacedSoFar l.program l.clients (drop l.client-index l.clients) l.standing
