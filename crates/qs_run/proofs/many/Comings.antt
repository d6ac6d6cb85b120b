-- The ends of runs stand in the order in which they first came: an order that comes to one of them leaves the first
-- runs as they are, and an end that is added first came by the last run, which is behind all others.
use Rattle.std.proofs.Common.{◌≡◌, ◌<◌, ◌∙◌, ℕ, zero, suc, Some, List, [], ◌∷◌, ◌++◌, length, slice_get, refl, sym, ap, subst, arith, inl, inr, rules}
use Rattle.qs_run.proofs.Names.{AllByRecursion, AllZip, AreAsTheyCame, CameFirstBy, CameTo, CountedShape, HasCome, IsAdded, IsCountOf, IsCounted, ProgramShape, Ticket, each_map, map-append}
use Rattle.qs_run.proofs.Names.{not_yet, option_map, same_standings, slice_get-map, slice_get_within, standing_of, standings_in, times_within}
use Rattle.std.proofs.lemmas.Slice.Zip.{all_zipped_more}
use Rattle.qs_meaning.specs.Configurations.{outcome_of}
use Rattle.qs_outcomes.specs.Outcomes.{outcome_at}
use Rattle.qs_standings.specs.Standings.{StandingShape}
use Rattle.qs_standings.proofs.Lists.{pairs_join}
use Rattle.qs_tally.proofs.Places.{each_at, get_front, get_snoc, zip_map}

get_last : {X : Type 0} (xs : List X) (y : X) → slice_get (xs ++ y ∷ []) (length xs) ≡ Some y
get_last [] y = refl
get_last (x ∷ xs) y = get_last xs y

-- what stands in the other list where one stands in this
zip_there : {X Y : Type 0} (R : X → Y → Type 0) (xs : List X) (ys : List Y) (k : ℕ) (x : X) → AllZip R xs ys → slice_get xs k ≡ Some x → (y : Y) × R x y
zip_there R [] ys k x h e = absurd (cc)
zip_there R (u ∷ us) [] k x h e = absurd h
zip_there R (u ∷ us) (v ∷ vs) zero x h e = (v, subst (λ z. R z v) (let is : u ≡ x = cc in is) h.0)
zip_there R (u ∷ us) (v ∷ vs) (suc k) x h e = zip_there R us vs k x h.1 e

-- before the first run no end has come
none_come : (p : ProgramShape) (ends : List CountedShape) → IsCountOf p [] ends → AllByRecursion HasCome ends → ends ≡ []
none_come p [] count come = refl
none_come p (e ∷ es) count come = absurd (let none = times_within p [] (e ∷ es) 0 e count refl in let one = come.0 in omega (arith, none, one))

pub came_none : (p : ProgramShape) (ends : List CountedShape) → IsCountOf p [] ends → AllByRecursion HasCome ends → AreAsTheyCame p [] (standings_in ends)
came_none p ends count come = subst (λ es. AreAsTheyCame p [] (standings_in es)) (sym (none_come p ends count come)) ([], tt, tt)

module _ (p : ProgramShape) (order : List Ticket) (orders : List (List Ticket)) where
  still_first : (s : StandingShape) (run : ℕ) → CameFirstBy p orders s run → CameFirstBy p (orders ++ order ∷ []) s run
  still_first s run came = grind (arith, get_front, get_snoc, slice_get_within)

  all_within : (ss : List StandingShape) (runs : List ℕ) → AllZip (CameFirstBy p orders) ss runs → AllByRecursion (λ i. i < length orders) runs
  all_within [] [] h = tt
  all_within (s ∷ ss) (i ∷ is) h = (slice_get_within orders i s.order h.0.by_order, all_within ss is h.1)
  all_within _ _ h = absurd h

  came_again : (ends : List StandingShape) → AreAsTheyCame p orders ends → AreAsTheyCame p (orders ++ order ∷ []) ends
  came_again ends came = (came.0, zip_map still_first ends came.0 came.1, came.2)

  module _ (before after : List CountedShape) (count : IsCountOf p orders before) (a : IsAdded p order before after) where
    -- no order before came to the end that is added
    new_end : (i : ℕ) (o : List Ticket) → slice_get orders i ≡ Some o → outcome_of p o ≡ outcome_at a.standing → ⊥
    new_end i o at same =
        let there = zip_there (CameTo p before) orders count.places i o count.met at in
        let e = there.1.0 in
        let stands : slice_get (standings_in before) there.0 ≡ Some e.standing = slice_get-map standing_of before there.0 ∙ ap (option_map standing_of) there.1.1 in
        each_at (λ s. outcome_at s ≡ outcome_of p order → ⊥) (standings_in before) there.0 e.standing stands a.new
        (there.1.2 ∙ same ∙ a.is_end.outcome ∙ ap (outcome_of p) a.along)

    first_now : CameFirstBy p (orders ++ order ∷ []) a.standing (length orders)
    first_now = grind (arith, get_last, a, get_snoc, new_end)

    came_new : AreAsTheyCame p orders (standings_in before) → AreAsTheyCame p (orders ++ order ∷ []) (standings_in after)
    came_new came = subst (AreAsTheyCame p (orders ++ order ∷ [])) (sym (ap standings_in a.longer ∙ map-append standing_of before (not_yet a.standing ∷ []))) (
      came.0 ++ length orders ∷ [],
      all_zipped_more (CameFirstBy p (orders ++ order ∷ [])) (standings_in before) came.0 a.standing (length orders) (zip_map still_first (standings_in before) came.0 came.1) first_now,
      pairs_join (λ i j. i < j) came.0 (length orders ∷ []) came.2 (tt, tt)
          (each_map {P = λ i. i < length orders} {Q = λ i. AllByRecursion (λ j. i < j) (length orders ∷ [])} (λ i less. (less, tt)) came.0 (all_within (standings_in before) came.0 came.1)),
    )

  pub came_on : (before after : List CountedShape) → IsCountOf p orders before → IsCounted p order before after → AreAsTheyCame p orders (standings_in before)
      → AreAsTheyCame p (orders ++ order ∷ []) (standings_in after)
  came_on before after count c came =
      let here = c.placed.came in
      let same : standings_in after ≡ standings_in c.between = ap standings_in (c.more here.0 here.1) ∙ same_standings c.between c.place here.0 here.1 in
      subst (AreAsTheyCame p (orders ++ order ∷ [])) (sym same) (elim c.placed.either [
        | inl is ↦ subst (λ es. AreAsTheyCame p (orders ++ order ∷ []) (standings_in es)) (sym is) (came_again (standings_in before) came)
        | inr a ↦ came_new before c.between count a came
      ])
