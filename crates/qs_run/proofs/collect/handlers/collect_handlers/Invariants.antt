-- What is known of the handlers that were collected so far, and the journals and states that were moved out of them.
use Rattle.std.proofs.Common.{◌≡◌, map, vec_capacity}
use Rattle.std.specs.List.{AllByRecursion}
use Rattle.qs_run.specs.Collected.{HasTakenAll, worker_journal, worker_state}
use Rattle.qs_run.proofs.collect.handlers.collect_handlers.Given as goal

abbrev pub invariant-loop-handler : goal.invariant-loop-handler
invariant-loop-handler g l = record {
  desk : l.desk ≡ l.initial.desk;
  taken_all : AllByRecursion (HasTakenAll g.D.DeskName.program l.initial.desk.history) l.yielded;
  journals : l.journals.items ≡ map worker_journal l.yielded;
  states : l.states.items ≡ map worker_state l.yielded;
  journals_room : vec_capacity l.journals ≡ vec_capacity l.initial.journals;
  states_room : vec_capacity l.states ≡ vec_capacity l.initial.states;
}
