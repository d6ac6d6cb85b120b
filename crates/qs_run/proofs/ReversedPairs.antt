-- Two lists that belong together member by member still do once both are turned. The workers are started from the end
-- of their list, so the list is turned before a run, and what the run gives back is turned after it.
use Rattle.std.proofs.Common.{◌≡◌, List, [], ◌∷◌, ◌++◌, sym, subst, rules, arith}
use Rattle.qs_played.proofs.Names.{reverse, AllZip, reverse-append, reverse-reverse, AllZip-push}

module _ {X : Type 0} (R : X → X → Type 0) where
  both_turned : (xs ys : List X) → AllZip R xs ys → AllZip R (reverse xs) (reverse ys)
  both_turned [] [] all = tt
  both_turned (x ∷ xs) (y ∷ ys) all =
      let longer = AllZip-push R (reverse xs) (reverse ys) x y (both_turned xs ys all.1) all.0 in
      subst (λ it. AllZip R it (reverse (y ∷ ys))) (sym (reverse-append (x ∷ []) xs))
      (subst (λ it. AllZip R (reverse xs ++ x ∷ []) it) (sym (reverse-append (y ∷ []) ys)) longer)
  both_turned _ _ all = absurd all

  -- what belongs to a turned list belongs, turned, to the list
  pub turned_back : (xs turned ys back : List X) → turned ≡ reverse xs → back ≡ reverse ys → AllZip R turned ys → AllZip R xs back
  turned_back xs turned ys back before after all = search (rules, reverse-reverse, both_turned)
