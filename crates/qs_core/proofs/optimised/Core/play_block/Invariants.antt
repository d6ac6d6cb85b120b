use Rattle.qs_core.proofs.CoreBlocks.{StandsIn}
use Rattle.qs_core.proofs.optimised.Core.play_block.Given as goal

abbrev pub invariant-loop-turn : goal.invariant-loop-turn
invariant-loop-turn l = StandsIn l.fn.self l.client l._turn l.self
