-- The blocks before this number are there.
use Rattle.qs_text.specs.Blocks.{IsBlockBy}
use Rattle.qs_text.specs.Texts.{AreTextsUpTo, IsAdded}
use Rattle.qs_text.proofs.blocks.put_blocks_of.Given as goal

abbrev pub invariant-loop-block : goal.invariant-loop-block
invariant-loop-block g l =
    IsAdded (AreTextsUpTo l.block (IsBlockBy l.program (g.W.BlockWriter.head l.writer l.program) (g.W.BlockWriter.nodes l.writer l.program) l.client))
    l.initial.out.items l.out.items
