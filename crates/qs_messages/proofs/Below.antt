-- What is made of the numbers below n + 1 is what is made of those below n, and of n. The loops over objects, clients,
-- variables and blocks by number stand on it.
use Rattle.std.proofs.Common.{◌≡◌, ℕ, ◌+◌, List, [], ◌∷◌, ◌++◌, map, flat_map, sym, ap, ◌∙◌, zero-add, append_assoc, append-nil}
use Rattle.std.proofs.lemmas.List.Concat.{flat_map-append}
use Rattle.std.proofs.lemmas.List.Folds.{flat_map-map}
use Rattle.std.proofs.lemmas.List.FromFn.{map-range_with_len_more}
use Rattle.qs_messages.specs.Warnings.{below}

same : ℕ → ℕ
same n = n

flat_more : {A : Type 0} (f : ℕ → List A) (n : ℕ) → flat_map f (below (n + 1)) ≡ flat_map f (below n) ++ f n
unfolding same
flat_more f n =
    sym (flat_map-map f same (below (n + 1)))
    ∙ ap (flat_map f) (map-range_with_len_more same 0 n n (zero-add n))
    ∙ flat_map-append f (map same (below n)) (n ∷ [])
    ∙ ap (λ xs. flat_map f (map same (below n)) ++ xs) (append-nil (f n))
    ∙ ap (λ xs. xs ++ f n) (flat_map-map f same (below n))

pub one_more : {A : Type 0} (f : ℕ → List A) (old out new : List A) (i : ℕ) → out ≡ old ++ flat_map f (below i) → new ≡ out ++ f i
    → new ≡ old ++ flat_map f (below (i + 1))
one_more f old out new i so_far added =
    added ∙ ap (λ xs. xs ++ f i) so_far ∙ append_assoc old (flat_map f (below i)) (f i) ∙ ap (λ xs. old ++ xs) (sym (flat_more f i))
