use Rattle.qs_messages.proofs.Below.{one_more}
use Rattle.qs_messages.specs.Warnings.{client_warnings}
use Rattle.qs_messages.proofs.warned.finding.add_clients.Goals as goal

pub loop-client-preserved : goal.loop-client-preserved
loop-client-preserved c =
    one_more (client_warnings c.args.program.now) c.args.out.now.items c.loop-client.out.items c.add_client.new.out.items c.loop-client.client
    c.loop-client.invariant c.in_ok-add_client.ensures.added
