use Rattle.std.proofs.Common.{◌<◌, ◌≤◌, ◌++◌, ap, arith, get_or, length, subst, sym, ◌∙◌}
use Rattle.qs_steps.proofs.Names.{CoreState, End, core_of, gap_in, parcel_in, parcels_in, take_all}
use Rattle.qs_steps.proofs.CoreQueuesText.{parcels_more}
use Rattle.qs_steps.proofs.Queues.{joined}
use Rattle.qs_steps.proofs.core_queues.put_parcels.Goals as goal

pub put_parcel-requires : goal.put_parcel-requires
put_parcel-requires c =
    let s = c.args.core.now in
    let same = sym c.loop-place.invariant.same in
    let inside : c.loop-place.place < length ((core_of s).down c.args.client c.args.handler) = omega (arith, c.loop-place-test.true, c.parcels-place-end.ensures.value, ap length c.lane_of.ensures.lane.down) in
    record {
      client = subst (λ (x : CoreState). c.args.client < length x.program.clients) same c.requires.client;
      handler = subst (λ (x : CoreState). c.args.handler < length x.program.objects) same c.requires.handler;
      place = subst (λ (x : CoreState). c.loop-place.place < length ((core_of x).down c.args.client c.args.handler)) same inside;
    }

pub loop-place-preserved : goal.loop-place-preserved
loop-place-preserved c =
    let p = c.args.program.now in
    let s = c.args.core.now in
    let down = (core_of s).down c.args.client c.args.handler in
    let i = c.loop-place.place in
    let inside : i < length down = omega (arith, c.loop-place-test.true, c.parcels-place-end.ensures.value, ap length c.lane_of.ensures.lane.down) in
    let one = c.in_ok-put_parcel.ensures.ok End ∙ ap (λ (x : CoreState). c.put_gap.new.out.items ++ parcel_in c.args.form p (get_or ((core_of x).down c.args.client c.args.handler) i End)) c.loop-place.invariant.same in
    record {
      text = parcels_more c.args.form p down c.args.out.now.items _ _ i End inside c.loop-place.invariant.text
          (joined _ _ _ (gap_in c.args.form i) (parcel_in c.args.form p (get_or down i End)) c.in_ok-put_gap.ensures.ok one);
      same = c.in_ok-put_parcel.ensures.same ∙ c.loop-place.invariant.same;
    }

pub returns-clause-ok : goal.returns-clause-ok
returns-clause-ok c =
    let down = (core_of c.args.core.now).down c.args.client c.args.handler in
    let all : length down ≤ c.loop-place.place = omega (arith, c.loop-place-test.false, c.parcels-place-end.ensures.value, ap length c.lane_of.ensures.lane.down) in
    c.loop-place.invariant.text ∙ ap (λ ys. c.args.out.now.items ++ parcels_in c.args.form c.args.program.now ys) (take_all c.loop-place.place down all)
