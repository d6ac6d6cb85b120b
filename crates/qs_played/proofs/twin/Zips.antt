-- Two lists are equal from some place on where they are so at that place and after it. The code's comparisons
-- (`are_same_lists`, `are_same_values`) go over two lists at once and use this.
use Rattle.std.proofs.Common.{◌≡◌, ◌<◌, ◌+◌, ℕ, suc, List, ◌∷◌, length, get_or, drop, drop-cons, map, slice_get, unwrap_or, sym, subst, ap, ap₂, ◌∙◌, arith, rules}
use Rattle.qs_played.proofs.Names.{get_or-map, unwrap_or-slice_get}

-- two lists are equal from a place on
pub same_step : {X : Type 0} (xs ys : List X) (i : ℕ) (d : X) → i < length xs → i < length ys → slice_get xs i ≡ slice_get ys i
    → drop (i + 1) xs ≡ drop (i + 1) ys → drop i xs ≡ drop i ys
same_step xs ys i d a b is later =
    let next : i + 1 ≡ suc i = omega arith in
    let here : get_or xs i d ≡ get_or ys i d = sym (unwrap_or-slice_get xs i d) ∙ (ap (λ o. unwrap_or o d) is ∙ unwrap_or-slice_get ys i d) in
    drop-cons xs i d a
    ∙ (ap₂ (λ z zs. z ∷ zs) here (subst (λ n. drop n xs ≡ drop n ys) next later) ∙ sym (drop-cons ys i d b))

-- two functions give equal lists from a place on
pub map_step : {X Y : Type 0} (f g : X → Y) (xs ys : List X) (i : ℕ) (d e : X) → i < length xs → i < length ys → f (get_or xs i d) ≡ g (get_or ys i e)
    → map f (drop (i + 1) xs) ≡ map g (drop (i + 1) ys) → map f (drop i xs) ≡ map g (drop i ys)
map_step f g xs ys i d e a b is later = search (rules, drop-cons, map, drop)

pub map_at : {X Y : Type 0} (f g : X → Y) (xs ys : List X) (i : ℕ) (d e : X) (y : Y) → i < length xs → i < length ys → map f xs ≡ map g ys
    → f (get_or xs i d) ≡ g (get_or ys i e)
map_at f g xs ys i d e y a b is = sym (get_or-map f xs i d y a) ∙ (ap (λ zs. get_or zs i y) is ∙ get_or-map g ys i e y b)
