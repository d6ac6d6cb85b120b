use Rattle.qs_levels.proofs.Common.{◌≡◌, ◌<◌, ◌≤◌, ◌∙◌, ◌∷◌, [], ◌++◌, None, Some, ap, arith, length, replicate, slice_index_or, subst, suc, sym, AllByRecursion, each_snoc, length-replicate, rules}
use Rattle.qs_levels.proofs.Common.{length-set, slice_set, IsSpot, LevelShape, level_in, IsNextOf, IsLeastPart, rests_of, spot_of}
use Rattle.qs_levels.proofs.Merged.{IsMerging, IsNextTaken, all_in, left_in, merging_begins, merging_ends, next_taken, none_taken, taking_goes_on, taking_shrinks}
use Rattle.qs_levels.proofs.merging.merged.Goals as goal
use Rattle.qs_levels.proofs.merging.merged.Goals.{In_ok-places, In-Some}

-- no place is passed over yet
begins : (c : In_ok-places) → c.in_ok-places.places.items ≡ replicate (length c.args.parts.items) 0
begins c = subst (λ n. c.in_ok-places.places.items ≡ replicate n 0) (let e = c.len.ensures in let k = c.args.parts.ok.0 in omega (arith, e, k)) (c.in_ok-places.ensures.items_if_clones_equal (λ y same. same))

pub loop-number-init : goal.loop-number-init
loop-number-init c =
    let parts = c.args.parts.items in
    let begun = begins (goal.at.loop-number-init c).In_ok-places in
    record {
      even = ap length begun ∙ length-replicate (length parts) 0;
      spots = subst (AllByRecursion (IsSpot parts)) (sym c.clear.ensures.items) tt;
      merging = rw (c.clear.ensures.items, begun, none_taken parts)
          (merging_begins c.args.step.now.search.program.now c.args.step.now.search.front.now c.args.step.now.level.now.standings parts c.requires.parts);
    }

-- what is taken next
next_one : (c : In-Some) → IsNextTaken c.args.parts.items c.loop-number.places.items c.in-Some.number
next_one c =
    next_taken c.args.parts.items c.loop-number.places.items c.in-Some.number c.loop-number.invariant.even
    (rw (c.as_slice.ensures.value, c.as_slice-in-loop-number.ensures.value) at c.in-Some.ensures.least)

pub take-requires : goal.take-requires
take-requires c =
    let next = next_one (goal.at.take-requires c).In-Some in
    let same = c.as_slice-in-Some.ensures.value in
    let places = c.loop-number.places.items in
    let k = c.in-Some.number in
    record {
      number = subst (λ ps. k < length ps) (sym same) next.number;
      few = subst (λ ps. length ps ≤ 256) (sym same) c.requires.few;
      even = c.loop-number.invariant.even ∙ sym (ap length same);
      within = subst (λ ps. slice_index_or places k 0 < length (slice_index_or ps k [])) (sym same) next.within;
    }

pub loop-number-smaller : goal.loop-number-smaller
loop-number-smaller c =
    let next = next_one (goal.at.loop-number-smaller c).In-Some in
    let parts = c.args.parts.items in
    let places = c.loop-number.places.items in
    subst (λ ns. left_in (rests_of ns parts) < left_in (rests_of places parts)) (sym c.in_ok-take.ensures.places) (taking_shrinks parts places c.in-Some.number c.loop-number.invariant.even next)

pub loop-number-preserved : goal.loop-number-preserved
loop-number-preserved c =
    let next = next_one (goal.at.loop-number-preserved c).In-Some in
    let p = c.args.step.now.search.program.now in
    let front = c.args.step.now.search.front.now in
    let level = c.args.step.now.level.now.standings in
    let parts = c.args.parts.items in
    let places = c.loop-number.places.items in
    let k = c.in-Some.number in
    let n = slice_index_or places k 0 in
    let spots = c.loop-number.spots.items in
    let added : c.take.new.spots.items ≡ spots ++ spot_of parts k n ∷ [] = c.in_ok-take.ensures.spots ∙ ap (λ ps. spots ++ spot_of ps k n ∷ []) c.as_slice-in-Some.ensures.value in
    record {
      even = ap length c.in_ok-take.ensures.places ∙ (length-set places k (suc n) ∙ c.loop-number.invariant.even);
      spots = subst (AllByRecursion (IsSpot parts)) (sym added)
          (each_snoc (IsSpot parts) spots (spot_of parts k n) c.loop-number.invariant.spots (record { part = next.number; place = next.within }));
      merging = rw (c.in_ok-take.ensures.places, added) (taking_goes_on p front level c.requires.level.1.sorted parts places spots k c.loop-number.invariant.even c.loop-number.invariant.merging next);
    }

pub returns-clause-next : goal.returns-clause-next
returns-clause-next c =
    let p = c.args.step.now.search.program.now in
    let parts = c.args.parts.items in
    let places = c.loop-number.places.items in
    let merging = c.loop-number.invariant.merging in
    let none : IsLeastPart (rests_of places parts) None = rw (c.as_slice.ensures.value, c.as_slice-in-loop-number.ensures.value, c.in_default.is) at c.least.ensures.least in
    subst (λ l. IsNextOf p c.args.step.now.search.front.now c.args.step.now.level.now.standings l) (sym (ap (λ (l : LevelShape). l.standings) c.new.ensures.level))
    (merging_ends p c.args.step.now.search.front.now c.keeps_sound.ensures.sound c.args.step.now.level.now.standings c.requires.level.1.sorted parts c.requires.some c.requires.parts (rests_of places parts)
    (level_in parts c.loop-number.spots.items).standings (level_in parts c.loop-number.spots.items).going merging none)
