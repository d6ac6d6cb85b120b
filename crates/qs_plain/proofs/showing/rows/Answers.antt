use Rattle.std.proofs.Common.{◌≡◌, ◌++◌, ◌∷◌, [], rules, length, sym, subst, ◌∙◌}
use Rattle.qs_played.proofs.Names.{into_iter_items, into_iter_len, YieldsList-from_vec, YieldsList-end, map-id}
use Rattle.qs_plain.specs.BegunBlocks.{AreRows}
use Rattle.qs_plain.proofs.ReadRows.{rows_push}
use Rattle.qs_plain.proofs.showing.rows.Goals as goal

pub loop-client-preserved : goal.loop-client-preserved
loop-client-preserved c =
    subst (λ rows. AreRows rows (c.loop-client.yielded ++ c.in-Some.client ∷ [])) (sym c.in_ok-push.ensures.items)
    (rows_push c.loop-client.rows.items c.loop-client.yielded c.into_rows.result c.in-Some.client c.loop-client.invariant c.into_rows.ensures.rows)

pub returns : goal.returns
returns c =
    let items : into_iter_items c.into_iter-client-iterator.result ≡ c.args.clients.items = search (rules, c.into_iter-client-iterator.ensures.into_iter_gives) in
    let len : into_iter_len c.into_iter-client-iterator.result ≡ length c.args.clients.items = search (rules, c.into_iter-client-iterator.ensures.into_iter_gives, c.args.clients.ok) in
    let all = YieldsList-from_vec {s = c.into_iter-client-iterator.result} c.args.clients.items items len in
    let end = YieldsList-end all c.loop-client.yielded c.loop-client.client-iterator c.loop-client.yielded_by c.next.result c.next.new.self c.in-None.is c.next.ensures.steps in
    let whole : c.loop-client.yielded ≡ c.args.clients.items = sym (map-id c.loop-client.yielded) ∙ end.0 in
    record { value = subst (AreRows c.loop-client.rows.items) whole c.loop-client.invariant }
