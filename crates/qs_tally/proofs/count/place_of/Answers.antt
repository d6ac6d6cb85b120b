use Rattle.std.proofs.Common.{◌≡◌, [], ◌∷◌, ◌++◌, Some, slice_get, ap, subst, ◌∙◌}
use Rattle.qs_tally.proofs.Common.{IsInserted, row_of, rows_in}
use Rattle.qs_tally.specs.Counting.{IsAtEnd, not_yet}
use Rattle.qs_tally.specs.Tallies.{CountedShape}
use Rattle.qs_tally.proofs.Ends.{at_end_of, new_placed, new_tabled, old_placed, old_tabled}
use Rattle.qs_tally.proofs.count.place_of.Goals as goal

pub standing_after-requires : goal.standing_after-requires
standing_after-requires c = record { legal = c.requires.complete.legal }

pub row-requires : goal.row-requires
row-requires c = record { standing = c.in_ok-standing.ensures.first.standing }

pub returns-then-not-new : goal.returns-then-not-new
returns-then-not-new c =
    let p = c.args.program.now in
    let sound = c.keeps_sound.ensures.sound in
    let s = c.in_ok-standing.standing in
    let first = c.in_ok-standing.ensures.first in
    let is : IsAtEnd p s = at_end_of _ _ _ c.requires.complete first in
    let kept = rows_in c.args.rows.now.keys in
    let after = rows_in c.look_up.new.rows.keys in
    let ends = c.args.ends.now.items in
    let place = c.in_ok-place.place in
    let new = c.in_ok-place.new in
    let inserted : IsInserted kept (row_of p s) new after = subst (λ r. IsInserted kept r new after) c.in_ok-row.ensures.row c.in_ok-place.ensures.inserted in
    let here : slice_get after place ≡ Some (row_of p s) = c.in_ok-place.ensures.place ∙ ap (λ r. Some r) c.in_ok-row.ensures.row in
    record {
      tabled = old_tabled _ sound _ _ is first.order _ _ _ ends place _ c.requires.tabled inserted here c.if-not-new.true;
      placed = old_placed _ sound _ _ is first.order _ _ _ ends _ _ c.requires.tabled inserted here c.if-not-new.true;
    }

pub returns : goal.returns
returns c =
    let p = c.args.program.now in
    let sound = c.keeps_sound.ensures.sound in
    let s = c.in_ok-standing.standing in
    let first = c.in_ok-standing.ensures.first in
    let is : IsAtEnd p s = at_end_of _ _ _ c.requires.complete first in
    let kept = rows_in c.args.rows.now.keys in
    let after = rows_in c.look_up.new.rows.keys in
    let before = c.args.ends.now.items in
    let ends = c.add.new.ends.items in
    let place = c.in_ok-place.place in
    let new = c.in_ok-place.new in
    let inserted : IsInserted kept (row_of p s) new after = subst (λ r. IsInserted kept r new after) c.in_ok-row.ensures.row c.in_ok-place.ensures.inserted in
    let here : slice_get after place ≡ Some (row_of p s) = c.in_ok-place.ensures.place ∙ ap (λ r. Some r) c.in_ok-row.ensures.row in
    let are : ends ≡ before ++ not_yet s ∷ [] = c.in_ok-add.ensures.added ∙ ap (λ (x : CountedShape). before ++ x ∷ []) c.new.ensures.new in
    record {
      tabled = new_tabled _ sound _ _ is first.order _ _ _ _ place _ c.requires.tabled inserted here c.if-not-new.false are;
      placed = new_placed _ sound _ _ is first.order _ _ _ _ _ _ c.requires.tabled inserted here c.if-not-new.false are;
    }
