use Rattle.std.proofs.Common.{◌++◌, ap, ◌∙◌}
use Rattle.qs_program.specs.audit.Program.{BlockShape}
use Rattle.qs_messages.proofs.Below.{one_more}
use Rattle.qs_messages.specs.Warnings.{block_warnings, list_warnings}
use Rattle.qs_messages.proofs.warned.finding.add_lists.Goals as goal

pub loop-block-preserved : goal.loop-block-preserved
loop-block-preserved c =
    one_more (block_warnings c.args.program.now c.args.client) c.args.out.now.items c.loop-block.out.items c.add_names.new.out.items c.loop-block.block
    c.loop-block.invariant
    (c.in_ok-add_names.ensures.added ∙ ap (λ (b : BlockShape). c.loop-block.out.items ++ list_warnings c.args.client c.loop-block.block b) c.own_block.ensures.value)
