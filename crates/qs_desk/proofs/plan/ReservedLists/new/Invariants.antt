use Rattle.std.proofs.Common.{◌≡◌, map, take}
use Rattle.qs_desk.specs.Plans.{lists_of_client}
use Rattle.qs_desk.proofs.plan.ReservedLists.new.Given as goal

abbrev pub invariant-loop-client : goal.invariant-loop-client
invariant-loop-client l = l.clients.items ≡ map lists_of_client (take l.client l.program.clients)
