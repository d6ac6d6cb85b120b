use Rattle.qs_steps.proofs.Replays.{core_replay, plain_replay}
use Rattle.qs_steps.proofs.laws.steps_replay.Goals as goal

pub returns : goal.returns
returns c = record { replay = record { by_rules = plain_replay; by_machine = core_replay } }
