use Rattle.std.proofs.Common.{false, subst, sym}
use Rattle.qs_tally.proofs.Common.{AllByRecursion, AllZip, AreApart, IsListed, rows_in}
use Rattle.qs_tally.specs.Counting.{AreTabled, IsBegun, IsSameEnd}
use Rattle.qs_tally.specs.Tallies.{standings_in}
use Rattle.qs_tally.proofs.Listing.{begun_listed, begun_unlisted}
use Rattle.qs_tally.proofs.count.begin.Goals as goal

pub list_all-requires : goal.list_all-requires
list_all-requires c = record {
  sound = subst (AllByRecursion (IsListed c.args.program.now)) (sym c.found.ensures.found) c.in-Ok.ensures.outcomes.sound;
  apart = subst AreApart (sym c.found.ensures.found) c.in-Ok.ensures.outcomes.once;
  tabled = c.requires.tabled;
  none = c.requires.none;
}

pub returns-in_ok-list_all-in-Ok-clause-begun : goal.returns-in_ok-list_all-in-Ok-clause-begun
returns-in_ok-list_all-in-Ok-clause-begun c =
    let ends = c.list_all.new.ends.items in
    begun_listed c.args.program.now c.args.limit (rows_in c.list_all.new.rows.keys) c.in-Ok.all ends c.in-Ok.ensures.outcomes c.in-Ok.ensures.within c.in_ok-list_all-in-Ok.ensures.tabled
    (subst (λ found. AllZip (IsSameEnd c.args.program.now) found (standings_in ends)) c.found.ensures.found c.in_ok-list_all-in-Ok.ensures.same) c.in_ok-list_all-in-Ok.ensures.none

pub returns-in-Err-Limit-clause-begun : goal.returns-in-Err-Limit-clause-begun
returns-in-Err-Limit-clause-begun c =
    let p = c.args.program.now in
    let kept = rows_in c.args.rows.now.keys in
    subst (IsBegun p c.args.limit false) (sym c.requires.none)
    (begun_unlisted p c.args.limit kept (subst (AreTabled p kept) c.requires.none c.requires.tabled) (c.in-Err-Limit.ensures.limit (cc (c.in-Err-Limit.field-0-is))))
