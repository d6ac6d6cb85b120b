use Rattle.std.proofs.Common.{◌≡◌, ap, arith, drop, length, sym, subst}
use Rattle.std.specs.Prelude.{IfOk}
use Rattle.qs_core.proofs.Names.{first_requests, lane_at, ClientPart}
use Rattle.qs_core.proofs.CoreFieldLemmas.{client_here}
use Rattle.qs_core.proofs.core_machine.reading.requests_at.Goals as goal

pub requests_at-requires : goal.requests_at-requires
requests_at-requires c =
    let here = client_here c.args.clients.now.items c.args.client c.from.result c.index_mut-client.result.now c.from.ensures c.requires.client c.index_mut-client.ensures.value in
    omega (arith, c.requires.lane, ap (λ (x : ClientPart). length x.lanes) here)

pub returns-clause-value : goal.returns-clause-value
returns-clause-value c =
    let here = client_here c.args.clients.now.items c.args.client c.from.result c.index_mut-client.result.now c.from.ensures c.requires.client c.index_mut-client.ensures.value in
    subst (λ rs. IfOk c.requests_at.result (λ requests. requests.items ≡ rs)) (sym (ap (λ (x : ClientPart). first_requests (drop c.args.place (lane_at x.lanes c.args.handler).down)) here)) c.requests_at.ensures.value
