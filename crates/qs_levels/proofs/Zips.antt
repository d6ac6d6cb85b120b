-- Marks and standings of equal number, taken together place by place: how many there are, what stands at a place, what
-- one more adds, and which lead comes first from a place on.
use Rattle.qs_levels.proofs.Common.{◌≡◌, ◌<◌, ◌≤◌, ℕ, zero, suc, List, [], ◌∷◌, ◌++◌, None, Some, length, drop, get_or, refl, ap, arith, drop-cons, drop_all, StandingShape, Found, found_of, no_found}
use Rattle.qs_levels.proofs.Common.{◌∙◌, sym, zipped, first_lead, Mark}

zipped_long : (ms : List Mark) (ss : List StandingShape) → length ms ≡ length ss → length (zipped ms ss) ≡ length ms
zipped_long [] ss even = refl
zipped_long (m ∷ ms) [] even = absurd (omega (arith, even))
zipped_long (m ∷ ms) (s ∷ ss) even = ap suc (zipped_long ms ss (omega (arith, even)))

pub zipped_snoc : (ms : List Mark) (ss : List StandingShape) (m : Mark) (s : StandingShape) → length ms ≡ length ss → zipped (ms ++ m ∷ []) (ss ++ s ∷ []) ≡ zipped ms ss ++ found_of m s ∷ []
zipped_snoc [] [] m s even = refl
zipped_snoc (n ∷ ms) (t ∷ ss) m s even = ap (λ fs. found_of n t ∷ fs) (zipped_snoc ms ss m s (omega (arith, even)))
zipped_snoc _ _ m s even = absurd (omega (arith, even))

zipped_at : (ms : List Mark) (ss : List StandingShape) (i : ℕ) (m : Mark) (s : StandingShape) → length ms ≡ length ss → i < length ms
    → get_or (zipped ms ss) i no_found ≡ found_of (get_or ms i m) (get_or ss i s)
zipped_at (n ∷ ms) (t ∷ ss) zero m s even less = refl
zipped_at (n ∷ ms) (t ∷ ss) (suc i) m s even less = zipped_at ms ss i m s (omega (arith, even)) (omega (arith, less))
zipped_at _ _ i m s even less = absurd (omega (arith, even, less))

-- a part that they are together is as long as the marks, and has at each place what they have there
pub part_long : (fs : List Found) (ms : List Mark) (ss : List StandingShape) → length ms ≡ length ss → zipped ms ss ≡ fs → length fs ≡ length ms
part_long fs ms ss even is = ap length (sym is) ∙ zipped_long ms ss even

pub part_at : (fs : List Found) (ms : List Mark) (ss : List StandingShape) (i : ℕ) (m : Mark) (s : StandingShape) → length ms ≡ length ss → zipped ms ss ≡ fs → i < length fs
    → found_of (get_or ms i m) (get_or ss i s) ≡ get_or fs i no_found
part_at fs ms ss i m s even is less = sym (zipped_at ms ss i m s even (omega (arith, part_long fs ms ss even is, less))) ∙ ap (λ gs. get_or gs i no_found) is

pub first_there : (fs : List Found) (i : ℕ) → i < length fs → first_lead (drop i fs) ≡ Some (get_or fs i no_found).lead
first_there fs i less = ap first_lead (drop-cons fs i no_found less)

pub first_past : (fs : List Found) (i : ℕ) → length fs ≤ i → first_lead (drop i fs) ≡ None
first_past fs i past = ap first_lead (drop_all i fs past)
