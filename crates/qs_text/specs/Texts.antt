-- Beside what the headline reaches (`audit/Texts.antt`): what else contracts and proofs use.
use Rattle.std.specs.Prelude.{◌≡◌, ℕ, zero, suc, List, [], ◌∷◌, ◌++◌, codes, flat_map, Option}
use Rattle.std.specs.Io.KnownBytes.{Appends}

-- each after a space, or a dash where there are none
abbrev pub list_text : {X : Type 0} → (X → List ℕ) → List X → List ℕ
list_text text [] = codes " -"
list_text text (x ∷ xs) = flat_map (λ y. codes " " ++ text y) (x ∷ xs)

-- texts of the places from 0 up to n, one after another
abbrev pub AreTextsUpTo : ℕ → (ℕ → List ℕ → Type 0) → List ℕ → Type 0
AreTextsUpTo zero IsText all = all ≡ []
AreTextsUpTo (suc n) IsText all =
    (before : List ℕ) × (last : List ℕ) × AreTextsUpTo n IsText before × IsText n last × (all ≡ before ++ last)

-- a text of this kind is added at the end
abbrev pub IsAdded : (List ℕ → Type 0) → (old new : List ℕ) → Type 0
IsAdded IsText old new = (text : List ℕ) × IsText text × (new ≡ old ++ text)

-- a text is put at the end
pub record Puts (text old new : List ℕ) : Type 0 where
  pub is : new ≡ old ++ text

-- a front of the text was appended
abbrev pub AppendsFront : Option (List ℕ) → Option (List ℕ) → List ℕ → Type 0
AppendsFront old new text = (done : List ℕ) × (later : List ℕ) × (text ≡ done ++ later) × Appends old new done
