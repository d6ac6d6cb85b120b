use Rattle.std.proofs.Common.{◌+◌, [], ◌∷◌, length, length-append, ap, arith}
use Rattle.qs_graph.proofs.Counting.{longer}
use Rattle.qs_graph.proofs.build.block_places.Goals as goal

pub push_reserved-requires-2 : goal.push_reserved-requires-2
push_reserved-requires-2 c =
    let last = c.nodes_of-count.result + 1 in
    omega (
      arith,
      (longer c.push_reserved.new.self.items _ last last c.args.body.now c.in_ok-add_body.ensures.added),
      ap length c.push_reserved.ensures.items,
      length-append c.in_ok-places.places.items (c.to.result ∷ []),
      ap length c.in_ok-places.ensures.items,
      c.in_ok-add_body.ensures.room,
      c.push_reserved.ensures.capacity,
      c.in_ok-places.ensures.exact,
      c.saturating_add.ensures,
      c.nodes_of-count.ensures.capped,
      c.add_body.new.places.ok.0,
      c.in_ok-places.places.small,
    )
