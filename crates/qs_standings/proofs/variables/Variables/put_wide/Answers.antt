use Rattle.std.proofs.Common.{◌≡◌, ap, arith, get_or, length, length-append, sym, ◌∙◌, take_all}
use Rattle.qs_standings.proofs.Common.{most_variables, zeros}
use Rattle.qs_standings.specs.Variables.{spread}
use Rattle.qs_standings.proofs.Spread.{all_are, each_long, in_all, wide_more}
use Rattle.qs_standings.proofs.variables.Variables.put_wide.Goals as goal

pub at-requires : goal.at-requires
at-requires c = in_all c.self.inside.width c.self.inside.clients c.loop-client.client c.self.inside.numbers.items c.args.self.now c.self.view_is c.loop-client-test.true

pub loop-client-preserved : goal.loop-client-preserved
loop-client-preserved c =
    let less = in_all c.self.inside.width c.self.inside.clients c.loop-client.client c.self.inside.numbers.items c.args.self.now c.self.view_is c.loop-client-test.true in
    let all : length c.at.result ≡ most_variables =
    ap length c.at.ensures.at ∙ (ap (λ ls. length (get_or ls c.loop-client.client zeros)) (sym c.self.view_is)
    ∙ each_long c.self.inside.width c.self.inside.clients c.loop-client.client c.self.inside.numbers.items c.self.invariant.narrow c.self.invariant.all c.loop-client-test.true) in
    let now = c.in_ok-extend_from_slice.ensures.items in
    let long = ap length now ∙ length-append c.loop-client.numbers.items c.at.result in
    let before = c.loop-client.invariant.long in
    record {
      long = omega (arith, long, all, before);
      same = wide_more c.loop-client.client c.args.self.now c.loop-client.numbers.items c.at.result c.extend_from_slice.new.self.items less before all c.loop-client.invariant.same c.at.ensures.at now;
    }

pub returns : goal.returns
returns c =
    let n = all_are c.self.inside.width c.self.inside.clients c.self.inside.numbers.items c.args.self.now c.self.view_is in
    let e : length c.args.self.now ≡ c.loop-client.client = omega (arith, n, c.loop-client-test.false, c.loop-client.auto.client-end) in
    let long = c.loop-client.invariant.long in
    record {
      long = omega (arith, e, long);
      same = (λ i. spread most_variables (e i) c.loop-client.numbers.items) ∙ (c.loop-client.invariant.same ∙ take_all c.loop-client.client c.args.self.now (omega (arith, e)));
    }
