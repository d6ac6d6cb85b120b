use Rattle.qs_dot.proofs.Common.{◌++◌, ◌∙◌, ap, codes, filter, on_ok_weaker, place_at, has, removed_at, head_text, held_text, place_text, written}
use Rattle.std.specs.Prelude.{slice_get}
use Rattle.qs_dot.proofs.Parts.{then}
use Rattle.qs_dot.proofs.nodes.put_line.Goals as goal

pub returns : goal.returns
returns c =
    let b = c.args.block.now in
    let p = b.program.now in
    let g = b.graph.now.nodes in
    let client = b.ticket.client in
    let head = head_text client b.ticket.index c.args.n (place_at g c.args.n) (removed_at g b.sets.now c.args.n) in
    let said = written p client (place_at g c.args.n).node in
    let place = place_text (slice_get c.args.lines.now c.args.n) in
    let held = held_text p client (filter (has b.sets.now c.args.n) b.reserved.now) in
    let end = codes "\"];\n" in
    let put_said = c.in_ok-put_written.ensures.ok ∙ ap (λ v. c.put_node_head.new.out.items ++ written p client v) c.node.ensures.value in
    record {
      ok = on_ok_weaker c.put.result
          (then c.args.out.now.items (head ++ said ++ place ++ held) end c.put_held_at.new.out.items c.put.new.out.items
          (then c.args.out.now.items (head ++ said ++ place) held c.put_place.new.out.items c.put_held_at.new.out.items
          (then c.args.out.now.items (head ++ said) place c.put_written.new.out.items c.put_place.new.out.items
          (then c.args.out.now.items head said c.put_node_head.new.out.items c.put_written.new.out.items c.in_ok-put_node_head.ensures.ok put_said)
          c.in_ok-put_place.ensures.ok)
          c.in_ok-put_held_at.ensures.ok))
          c.put.ensures.ok;
    }
