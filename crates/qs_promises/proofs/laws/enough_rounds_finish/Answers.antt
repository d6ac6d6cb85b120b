use Rattle.qs_plain_laws.proofs.progress.Bounded.{steps_bounded}
use Rattle.qs_core_laws.proofs.progress.Bounded.{core_steps_bounded}
use Rattle.qs_promises.proofs.Rounds.{default_enough, default_finish, enough_finish}
use Rattle.qs_promises.proofs.laws.enough_rounds_finish.Goals as goal

pub returns : goal.returns
returns c = record {
  steps = steps_bounded;
  steps_on = core_steps_bounded;
  finish = enough_finish;
  few = default_enough;
  default = default_finish;
}
