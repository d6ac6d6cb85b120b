use Rattle.std.proofs.Common.{◌≡◌, take}
use Rattle.qs_client.specs.audit.run.BlockSizes.{longest}
use Rattle.qs_client.proofs.run.begin.longest_graph.Given as goal

abbrev pub invariant-loop-block : goal.invariant-loop-block
invariant-loop-block l = l.most ≡ longest (take l.block l.code.blocks)
