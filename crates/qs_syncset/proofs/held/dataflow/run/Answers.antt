use Rattle.qs_syncset.proofs.held.Visits.{work_taken}
use Rattle.qs_syncset.proofs.held.dataflow.run.Goals as goal

pub visit-requires : goal.visit-requires
visit-requires g c = record {
  taken = work_taken _ c.turns.reached c.turns.sets _ c.pop.new.self _ c.in-Some.ensures.last c.turns.invariant.work;
}
