use Rattle.qs_messages.proofs.Below.{one_more}
use Rattle.qs_messages.specs.Warnings.{request_warnings}
use Rattle.qs_messages.proofs.warned.finding.add_requests.Goals as goal

pub loop-block-preserved : goal.loop-block-preserved
loop-block-preserved c =
    one_more (request_warnings c.args.program.now c.args.client) c.args.out.now.items c.loop-block.out.items c.add_block.new.out.items c.loop-block.block
    c.loop-block.invariant c.in_ok-add_block.ensures.added
