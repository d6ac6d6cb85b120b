-- None of the clients before this one reserves the object.
use Rattle.std.proofs.Common.{◌≡◌, false, take}
use Rattle.std.specs.List.{list_any}
use Rattle.qs_messages.specs.Warnings.{client_reserves}
use Rattle.qs_messages.proofs.warned.finding.is_reserved.Given as goal

abbrev pub invariant-loop-client : goal.invariant-loop-client
invariant-loop-client l = list_any (client_reserves l.object) (take l.client l.program.clients) ≡ false
