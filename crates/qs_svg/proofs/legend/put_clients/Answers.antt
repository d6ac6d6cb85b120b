use Rattle.qs_svg.specs.audit.Legend.{client_shapes}
use Rattle.qs_svg.proofs.Parts.{one_place_more}
use Rattle.qs_svg.proofs.legend.put_clients.Goals as goal

pub loop-client-preserved : goal.loop-client-preserved
loop-client-preserved c =
    one_place_more (client_shapes c.args.program.now) c.loop-client.client c.loop-client.invariant c.in_ok-put_client.ensures.ok
