use Rattle.qs_meaning.proofs.Trees.{trees_agree}
use Rattle.qs_meaning.proofs.laws.blocks_alone_follow_their_trees.Goals as goal

pub returns : goal.returns
returns c = record { agree = trees_agree }
