use Rattle.std.proofs.Common.{◌≡◌, ◌++◌, drop, map}
use Rattle.qs_check.specs.audit.resolution.Resolve.{block_shape}
use Rattle.qs_check.proofs.resolution.resolve.resolve_blocks.Given as goal

abbrev pub invariant-loop-block : goal.invariant-loop-block
invariant-loop-block l =
    map (block_shape l.numbering.objects.now l.numbering.kinds.now l.numbering.variables.now) l.blocks
    ≡ l.all.items ++ map (block_shape l.numbering.objects.now l.numbering.kinds.now l.numbering.variables.now) (drop l.block-index l.blocks)
