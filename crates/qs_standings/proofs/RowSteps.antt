-- A list that is written place by place: the part that was written and one more element. The loops that write rows and
-- copy objects stand on it.
use Rattle.std.proofs.Common.{◌≡◌, ◌<◌, ◌≤◌, ◌+◌, ℕ, zero, suc, List, [], ◌∷◌, ◌++◌, length, get_or, take, refl, sym, ap, ◌∙◌, arith, append_assoc, append-nil, add-one}
use Rattle.qs_standings.proofs.Common.{AllByRecursion-get_or, client_at, IsSound, IsSoundClient, length-take, Locals, most_variables, no_client, ProgramShape, slice_get, Some}
use Rattle.std.proofs.Common.{ℤ}
use Rattle.qs_standings.specs.Standings.{named_from}

pub take_more : {X : Type 0} (xs : List X) (i : ℕ) (d : X) → i < length xs → take (i + 1) xs ≡ take i xs ++ get_or xs i d ∷ []
take_more [] i d within = absurd (omega (arith, within))
take_more (x ∷ xs) zero d within = refl
take_more (x ∷ xs) (suc i) d within = rw add-one (ap (λ ys. x ∷ ys) (rw add-one at (take_more xs i d (omega (arith, within)))))

pub got : {X : Type 0} (xs : List X) (i : ℕ) (x : X) → slice_get xs i ≡ Some x → (i < length xs) × (x ≡ get_or xs i x)
got [] i x e = absurd (cc)
got (y ∷ xs) zero x e = (omega arith, cc)
got (y ∷ xs) (suc i) x e = let p = got xs i x e in (omega (arith, p.0), p.1)

pub take_got : {X : Type 0} (xs : List X) (i : ℕ) (x : X) (start row new : List X) → slice_get xs i ≡ Some x
    → row ≡ start ++ take i xs → new ≡ row ++ x ∷ [] → new ≡ start ++ take (i + 1) xs
take_got xs i x start row new e before now =
    let p = got xs i x e in
    now ∙ ap (λ r. r ++ x ∷ []) before ∙ append_assoc start (take i xs) (x ∷ [])
    ∙ ap (λ r. start ++ r) (sym (take_more xs i x p.0 ∙ ap (λ y. take i xs ++ y ∷ []) (sym p.1)))

-- the named variables of one more client
named_snoc : (p : ProgramShape) (c : ℕ) (ls : List Locals) (l : Locals) → named_from p c (ls ++ l ∷ []) ≡ named_from p c ls ++ take (length (client_at p (c + length ls)).variables) l
named_snoc p c [] l = append-nil (take (length (client_at p c).variables) l) ∙ (λ i. take (length (client_at p (let e : c ≡ c + 0 = omega arith in e i)).variables) l)
named_snoc p c (k ∷ ls) l =
    ap (λ ys. take (length (client_at p c).variables) k ++ ys) (named_snoc p (suc c) ls l)
    ∙ (sym (append_assoc (take (length (client_at p c).variables) k) (named_from p (suc c) ls) (take (length (client_at p (suc c + length ls)).variables) l))
    ∙ (λ i. (take (length (client_at p c).variables) k ++ named_from p (suc c) ls) ++ take (length (client_at p (let e : suc c + length ls ≡ c + suc (length ls) = omega arith in e i)).variables) l))

pub named_more : (p : ProgramShape) (ls : List Locals) (i : ℕ) (l d : Locals) (start row new : List ℤ) → i < length ls → l ≡ get_or ls i d
    → row ≡ start ++ named_from p 0 (take i ls) → new ≡ row ++ take (length (client_at p i).variables) l → new ≡ start ++ named_from p 0 (take (i + 1) ls)
named_more p ls i l d start row new within is before now =
    now ∙ (ap (λ r. r ++ take (length (client_at p i).variables) l) before
    ∙ (append_assoc start (named_from p 0 (take i ls)) (take (length (client_at p i).variables) l)
    ∙ ap (λ r. start ++ r) (sym (ap (named_from p 0) (take_more ls i d within ∙ ap (λ y. take i ls ++ y ∷ []) (sym is))
    ∙ (named_snoc p 0 (take i ls) l ∙ (λ k. named_from p 0 (take i ls) ++ take (length (client_at p (at_end k)).variables) l))))))
  where
    at_end : 0 + length (take i ls) ≡ i
    at_end = simp length-take (omega (arith, within))

-- a client of a sound program names few variables
pub few_variables : (p : ProgramShape) → IsSound p → (c : ℕ) → c < length p.clients → length (client_at p c).variables ≤ most_variables
few_variables p sound c less = (AllByRecursion-get_or (IsSoundClient p.objects) p.clients c no_client sound.each less).variables
