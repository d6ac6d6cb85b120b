use Rattle.std.proofs.Common.{◌≡◌, ◌<◌, ap, arith, drop, length, sym, subst, ◌∙◌}
use Rattle.std.specs.Prelude.{IfOk}
use Rattle.qs_core.proofs.Names.{first_requests, lane_at, CoreState, client_part_at}
use Rattle.qs_core.proofs.CorePlaces.{lanes_are}
use Rattle.qs_core.proofs.core_machine.CoreMachine.lane_requests.Goals as goal

pub requests_at-requires : goal.requests_at-requires
requests_at-requires c =
    let clients = ap (λ (x : CoreState). x.clients) c.self.view_is in
    let kept = c.keeps_machine.ensures.state in
    let inside : c.args.client < length c.args.self.now.clients = omega (arith, c.requires.client, kept.clients) in
    record {
      client = subst (λ cs. c.args.client < length cs) (sym clients) inside;
      lane = subst (λ cs. c.args.handler < length (client_part_at cs c.args.client).lanes) (sym clients) (omega (arith, c.requires.handler, (kept.sides c.args.client inside).lanes));
    }

pub returns-clause-value : goal.returns-clause-value
returns-clause-value c =
    let kept = c.keeps_machine.ensures.state in
    let inside : c.args.client < length c.args.self.now.clients = omega (arith, c.requires.client, kept.clients) in
    subst (λ rs. IfOk c.requests_at.result (λ requests. requests.items ≡ rs))
    (ap (λ (x : CoreState). first_requests (drop c.args.place (lane_at (client_part_at x.clients c.args.client).lanes c.args.handler).down)) c.self.view_is
    ∙ ap (λ ps. first_requests (drop c.args.place ps)) (lanes_are c.args.self.now kept c.args.client inside c.args.handler).down)
    c.requests_at.ensures.value
