use Rattle.std.proofs.Common.{◌≡◌, [], Some, add-one, length, refl, slice_get, subst, sym, take, take_all}
use Rattle.qs_tally.proofs.Common.{AllByRecursion, AllZip, IsComplete, IsListed, slice_get_read}
use Rattle.qs_tally.specs.Counting.{HasNotCome, IsPlaced, IsSameEnd}
use Rattle.qs_tally.specs.Tallies.{standings_in}
use Rattle.qs_tally.proofs.Listing.{none_on, same_on}
use Rattle.qs_tally.proofs.Places.{each_at}
use Rattle.qs_tally.proofs.count.list_all.Goals as goal

pub place_of-requires : goal.place_of-requires
place_of-requires c =
    let found = c.args.found.now in
    let i = c.loop-standing.standing-index in
    let s = c.standing-item.result in
    let at : slice_get found i ≡ Some s = slice_get_read found (length found) i s refl c.loop-standing-test.true c.standing-item.is in
    let is : IsListed c.args.program.now s = each_at (IsListed c.args.program.now) found i s at c.requires.sound in
    record {
      complete = subst (IsComplete c.args.program.now) (sym c.order.ensures.order) is.complete;
      tabled = c.loop-standing.invariant.tabled;
    }

pub loop-standing-init : goal.loop-standing-init
loop-standing-init c = record {
  tabled = c.requires.tabled;
  same = subst (λ ends. AllZip (IsSameEnd c.args.program.now) [] (standings_in ends)) (sym c.requires.none) tt;
  none = subst (AllByRecursion HasNotCome) (sym c.requires.none) tt;
}

pub loop-standing-preserved : goal.loop-standing-preserved
loop-standing-preserved c =
    let p = c.args.program.now in
    let found = c.args.found.now in
    let i = c.loop-standing.standing-index in
    let s = c.standing-item.result in
    let at : slice_get found i ≡ Some s = slice_get_read found (length found) i s refl c.loop-standing-test.true c.standing-item.is in
    let is : IsListed p s = each_at (IsListed p) found i s at c.requires.sound in
    let before = c.loop-standing.ends.items in
    let after = c.place_of.new.ends.items in
    let place = c.in_ok-_place._place in
    let placed : IsPlaced p s.order place before after = subst (λ order. IsPlaced p order place before after) c.order.ensures.order c.in_ok-_place.ensures.placed in
    record {
      tabled = c.in_ok-_place.ensures.tabled;
      same = subst (λ n. AllZip (IsSameEnd p) (take n found) (standings_in after)) (sym (add-one i))
          (same_on p found c.requires.apart i s at is before after place c.loop-standing.invariant.same placed);
      none = none_on p found c.requires.apart i s at is before after place c.loop-standing.invariant.same placed c.loop-standing.invariant.none;
    }

pub returns : goal.returns
returns c = record {
  tabled = c.loop-standing.invariant.tabled;
  same = subst (λ ss. AllZip (IsSameEnd c.args.program.now) ss (standings_in c.loop-standing.ends.items)) (take_all c.loop-standing.standing-index c.args.found.now c.loop-standing-test.false) c.loop-standing.invariant.same;
  none = c.loop-standing.invariant.none;
}
