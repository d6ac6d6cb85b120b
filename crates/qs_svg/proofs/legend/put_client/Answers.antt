use Rattle.qs_svg.proofs.Parts.{drawn, last_shape, last_shapes}
use Rattle.qs_svg.proofs.legend.put_client.Goals as goal

pub returns : goal.returns
returns c = record {
  ok = last_shapes _ _ _ (drawn (rw c.from-x.ensures at c.in_ok-put_square.ensures.ok))
      (last_shape _ _ _ _ (rw (c.from-x.ensures, c.client_name.ensures.name) at c.put_name.ensures.ok));
}
