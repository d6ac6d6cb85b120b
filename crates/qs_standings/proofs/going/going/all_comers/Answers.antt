use Rattle.std.proofs.Common.{◌≡◌, ◌<◌, ◌≤◌, ◌+◌, arith, ap, get_or, length, slice_set, subst, sym, ◌∙◌}
use Rattle.qs_standings.proofs.Common.{block_at, blocks_of, BlockShape, comes_in, list_any, most_clients, still_reserves}
use Rattle.qs_standings.specs.going.Going.{begun_counts, in_byte}
use Rattle.qs_standings.proofs.going.GoingSets.{RowsUpTo, row_left, row_written}
use Rattle.qs_standings.proofs.going.going.all_comers.Goals as goal
use Rattle.qs_standings.proofs.going.going.all_comers.Goals.{then-from-blocks_of, else-from-blocks_of}

pub loop-client-preserved : goal.loop-client-preserved
loop-client-preserved c =
    let p = c.args.program.now in
    let i = c.loop-client.client in
    let here : c.from.result ≡ get_or c.args.begun.now i 0 = c.from.ensures ∙ ap (λ k. get_or c.args.begun.now k 0) c.from-place.ensures in
    let inside : i < length p.clients = (let e = c.clients-client-end.ensures.value in omega (arith, e)) in
    let few : i < most_clients = (let e = c.keeps_sound.ensures.sound.clients in omega (arith, e, inside)) in
    elim c.if-from-blocks_of.branch [
      | then-from-blocks_of w ↦
          let text : w.reserved.result.now ≡ (block_at p i (get_or c.args.begun.now i 0)).reserved =
          w.reserved.ensures.value ∙ (ap (λ (b : BlockShape). b.reserved) w.block.ensures.value ∙ ap (λ k. (block_at p i (get_or c.args.begun.now k 0)).reserved) c.from-place.ensures) in
          let come : in_byte w.comers.result ≡ comes_in p (begun_counts c.args.begun.now) i =
          w.comers.ensures.comers ∙ (λ k d. list_any (still_reserves p (begun_counts c.args.begun.now) d) (text k)) in
          subst (λ rows. RowsUpTo p c.args.begun.now rows (i + 1)) (sym (w.rows-is ∙ ap (λ k. slice_set c.loop-client.rows k w.comers.result) c.from-place.ensures))
          (row_written p c.args.begun.now c.loop-client.rows i w.comers.result c.loop-client.invariant few come)
      | else-from-blocks_of w ↦
          let past : blocks_of p i ≤ get_or c.args.begun.now i 0 = (let b = c.blocks_of.ensures.value in let f = w.if-from-blocks_of.false in omega (arith, b, f, here)) in
          subst (λ rows. RowsUpTo p c.args.begun.now rows (i + 1)) (sym w.rows-is) (row_left p c.args.begun.now c.loop-client.rows i c.loop-client.invariant past)
    ]
