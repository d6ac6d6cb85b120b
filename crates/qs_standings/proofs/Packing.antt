-- What lay in lists lies where it lay when the lists have grown at their ends, and so standings stay as they are where
-- another is added, or where memory was refused in the middle. A list that has another as its front is this one with a
-- rest behind it, of which a part of the front has nothing.
use Rattle.std.proofs.Common.{◌≡◌, ◌≤◌, ◌+◌, List, [], ◌∷◌, ◌++◌, length, take, drop, map, refl, sym, ap, ap₂, ◌∙◌, subst, arith, length-append}
use Rattle.qs_standings.proofs.Common.{AllByRecursion, drop-append-le, each_join, each_map, length-drop, map-append, take-append-drop, take-append-le}
use Rattle.qs_standings.specs.Packed.{IsFront, IsGrown, IsKept, IsPlaced, cut, standing_at}
use Rattle.qs_standings.specs.Standings.{StandingShape}
use Rattle.qs_standings.specs.Variables.{IsSpread, spread}
use Rattle.qs_standings.specs.declared.packed.Span.{Span}
use Rattle.qs_standings.specs.declared.packed.Place.{Place}
use Rattle.qs_standings.specs.declared.packed.Pieces.{Pieces}

front_is : {X : Type 0} (xs ys : List X) → IsFront xs ys → ys ≡ xs ++ drop (length xs) ys
front_is xs ys front = sym (take-append-drop (length xs) ys) ∙ ap (λ zs. zs ++ drop (length xs) ys) front

front_long : {X : Type 0} (xs ys : List X) → IsFront xs ys → length xs ≤ length ys
front_long xs ys front =
    omega (arith, ap length (front_is xs ys front), length-append xs (drop (length xs) ys))

cut_longer : {X : Type 0} (span : Span) (xs zs : List X) → span.first + span.len ≤ length xs → cut span (xs ++ zs) ≡ cut span xs
cut_longer span xs zs within =
    ap (take span.len) (drop-append-le span.first xs zs (omega (arith, within)))
    ∙ take-append-le span.len (drop span.first xs) zs (omega (arith, within, length-drop span.first xs))

cut_front : {X : Type 0} (span : Span) (xs ys : List X) → IsFront xs ys → span.first + span.len ≤ length xs → cut span ys ≡ cut span xs
cut_front span xs ys front within = ap (cut span) (front_is xs ys front) ∙ cut_longer span xs (drop (length xs) ys) within

same_numbers : (old new : Pieces) (place : Place) → IsGrown old new → IsPlaced old place → cut place.numbers new.numbers.items ≡ cut place.numbers old.numbers.items
same_numbers old new place grown placed = cut_front place.numbers old.numbers.items new.numbers.items grown.numbers placed.numbers

still_placed : (old new : Pieces) (place : Place) → IsGrown old new → IsPlaced old place → IsPlaced new place
still_placed old new place grown placed =
    let begun = front_long old.begun.items new.begun.items grown.begun in
    let numbers = front_long old.numbers.items new.numbers.items grown.numbers in
    let objects = front_long old.objects.items new.objects.items grown.objects in
    record {
      order = omega (arith, front_long old.orders.items new.orders.items grown.orders, placed.order);
      begun = omega (arith, begun, placed.begun);
      numbers = omega (arith, numbers, placed.numbers);
      objects = omega (arith, objects, placed.objects);
      spread = subst (IsSpread place.width place.clients) (sym (same_numbers old new place grown placed)) placed.spread;
    }

same_standing : (old new : Pieces) (place : Place) → IsGrown old new → IsPlaced old place → standing_at new place ≡ standing_at old place
same_standing old new place grown placed =
    let orders = cut_front place.order old.orders.items new.orders.items grown.orders placed.order in
    let begun = cut_front place.begun old.begun.items new.begun.items grown.begun placed.begun in
    let numbers = same_numbers old new place grown placed in
    let objects = cut_front place.objects old.objects.items new.objects.items grown.objects placed.objects in
    λ i. record { order = orders i; begun = begun i; locals = spread place.width place.clients (numbers i); states = objects i }

-- All places are still places,
pub still : (old new : Pieces) (places : List Place) → IsGrown old new → AllByRecursion (IsPlaced old) places → AllByRecursion (IsPlaced new) places
still old new places grown all = each_map (λ place. still_placed old new place grown) places all

-- of the same standings.
pub same_standings : (old new : Pieces) (places : List Place) → IsGrown old new → AllByRecursion (IsPlaced old) places → map (standing_at new) places ≡ map (standing_at old) places
same_standings old new [] grown all = refl
same_standings old new (place ∷ places) grown all = ap₂ (λ s ss. s ∷ ss) (same_standing old new place grown all.0) (same_standings old new places grown all.1)

-- So it is with another behind them,
pub still_with : (old new : Pieces) (places : List Place) (place : Place) → IsGrown old new → AllByRecursion (IsPlaced old) places → IsPlaced new place
    → AllByRecursion (IsPlaced new) (places ++ place ∷ [])
still_with old new places place grown all placed = each_join (IsPlaced new) places (place ∷ []) (still old new places grown all) (placed, tt)

-- whose standing is the last.
pub standings_with : (old new : Pieces) (places : List Place) (place : Place) (s : StandingShape) → IsGrown old new → AllByRecursion (IsPlaced old) places → IsKept new place s
    → map (standing_at new) (places ++ place ∷ []) ≡ map (standing_at old) places ++ s ∷ []
standings_with old new places place s grown all kept =
    map-append (standing_at new) places (place ∷ [])
    ∙ ap₂ (λ ss t. ss ++ t ∷ []) (same_standings old new places grown all) kept.same
