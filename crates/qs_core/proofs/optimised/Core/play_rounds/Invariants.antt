use Rattle.qs_played.specs.audit.Schedule.{actors_of, rounds_of}
use Rattle.qs_core.specs.CoreOrders.{CoreGoes}
use Rattle.qs_core.proofs.optimised.Core.play_rounds.Given as goal

abbrev pub invariant-loop-round : goal.invariant-loop-round
invariant-loop-round l = CoreGoes l.fn.self (rounds_of l._round (actors_of l.fn.self.program)) l.self
