use Rattle.qs_promises.proofs.Ending.{finished_covered, listed_happen, machine_reaches, rules_reach}
use Rattle.qs_promises.proofs.laws.outcomes_leave_nothing_out.Goals as goal

pub returns : goal.returns
returns c =
    record { covered = finished_covered; reached = rules_reach; reached_on = machine_reaches; listed = listed_happen }
