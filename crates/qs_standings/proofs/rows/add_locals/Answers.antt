use Rattle.std.proofs.Common.{◌≡◌, ◌<◌, ◌++◌, ap, arith, get_or, length, take, ◌∙◌, refl}
use Rattle.qs_standings.proofs.Common.{client_at, zeros}
use Rattle.qs_standings.proofs.RowSteps.{named_more}
use Rattle.qs_standings.proofs.rows.add_locals.Goals as goal

pub loop-client-preserved : goal.loop-client-preserved
loop-client-preserved c =
    let p = c.args.program.now in
    let i = c.loop-client.client in
    let inside : i < length c.args.locals.now = (let e = c.clients-client-end.ensures.value in let n = c.requires.each in omega (arith, e, n)) in
    let count : c.len.result ≡ length (client_at p i).variables = c.len.ensures.value ∙ ap length c.variables.ensures.value in
    let values = ap (λ j. get_or c.args.locals.now j zeros) c.from.ensures in
    named_more p c.args.locals.now i (get_or c.args.locals.now i zeros) zeros c.args.row.now.items c.loop-client.row.items c.add_named.new.row.items inside refl c.loop-client.invariant
    (c.in_ok-add_named.ensures.added ∙ (λ k. c.loop-client.row.items ++ take (count k) (values k)))
