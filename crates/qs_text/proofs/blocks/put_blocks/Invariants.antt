-- The clients before this number are there.
use Rattle.qs_text.specs.Blocks.{AreBlocksOf, IsBlockBy}
use Rattle.qs_text.specs.Texts.{AreTextsUpTo, IsAdded}
use Rattle.qs_text.proofs.blocks.put_blocks.Given as goal

abbrev pub invariant-loop-client : goal.invariant-loop-client
invariant-loop-client g l =
    IsAdded (AreTextsUpTo l.client (AreBlocksOf l.program (IsBlockBy l.program (g.W.BlockWriter.head l.writer l.program) (g.W.BlockWriter.nodes l.writer l.program))))
    l.initial.out.items l.out.items
