use Rattle.qs_levels.proofs.Common.{◌≡◌, ◌<◌, Err, ap, arith, length, slice_index_or, refl, err_from_is_err_and, get_or_default, Limit, take_all, rules, tabled, no_standing}
use Rattle.qs_levels.proofs.NextLevels.{led_at, no_table, too_many}
use Rattle.qs_levels.proofs.leading.led_on.Goals as goal

pub loop-place-init : goal.loop-place-init
loop-place-init c = search (rules, no_table)

pub returns-in_err-lead_place-clause-limit : goal.returns-in_err-lead_place-clause-limit
returns-in_err-lead_place-clause-limit c = λ is.
    let p = err_from_is_err_and c.from_residual-in_err-lead_place.result c.from_residual-in_err-lead_place.ensures.1 in
    let more = c.in_err-lead_place.ensures.limit (cc (p.1, p.2)) in
    let less : c.loop-place.place < length c.args.step.now.level.now.standings = (let e = c.len-place-end.ensures.len in let l = c.loop-place-test.true in omega (arith, e, l)) in
    too_many _ _ c.keeps_sound.ensures.sound c.args.share.number c.args.share.count _ c.loop-place.place _ less (get_or_default _ c.loop-place.place no_standing _ less) refl c.requires.sorted
    (tabled c.loop-place.table) c.loop-place.invariant.table c.args.step.now.room more.0 more.1 more.2 more.3

pub loop-place-preserved : goal.loop-place-preserved
loop-place-preserved c =
    let less : c.loop-place.place < length c.args.step.now.level.now.standings = (let e = c.len-place-end.ensures.len in let l = c.loop-place-test.true in omega (arith, e, l)) in
    record {
      table = led_at _ _ c.keeps_sound.ensures.sound c.args.share.number c.args.share.count _ c.loop-place.place _ less (get_or_default _ c.loop-place.place no_standing _ less) refl c.requires.sorted
          (tabled c.loop-place.table) (tabled c.lead_place.new.table) c.loop-place.invariant.table c.in_ok-lead_place.ensures.led;
      small = c.in_ok-lead_place.ensures.small;
      known = c.in_ok-lead_place.ensures.known;
      even = c.in_ok-lead_place.ensures.even;
    }

pub returns-clause-part : goal.returns-clause-part
returns-clause-part c = search (rules, take_all)
