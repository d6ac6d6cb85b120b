use Rattle.qs_handler.proofs.RunTurns.{handlers_take_turns}
use Rattle.qs_handler.proofs.laws.handlers_take_turns.Goals as goal

pub returns : goal.returns
returns c = record { turns = handlers_take_turns }
