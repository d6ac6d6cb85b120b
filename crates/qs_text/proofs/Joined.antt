-- A text that is written piece by piece is, after one more piece, the text of the pieces up to there, also where a
-- space stands between two values. The loops that write nodes, states, orders and traces stand on it. The list of
-- pieces is taken one further, and for values with spaces it goes by induction on their number.
use Rattle.std.proofs.Common.{◌≡◌, ℕ, zero, suc, ◌+◌, ◌<◌, ◌≤◌, ◌⊎◌, inl, inr, subst, List, [], ◌∷◌, ◌++◌, length, map, take, get_or, flat_map, refl, sym, ap, ap₂, ◌∙◌, append_assoc, append-nil, add-one, arith, false, nat_eq, if◌then◌else◌}
use Rattle.std.proofs.lemmas.Bool.Decides.{nat_tests}
use Rattle.std.specs.List.{AllByRecursion, join_by}
use Rattle.std.proofs.Math.Nat.{eq-or-lt_of_le}
use Rattle.std.proofs.Math.Seq.{take-suc}
use Rattle.std.proofs.lemmas.List.{flat_map_more, map_push, take_all, take_more}
use Rattle.qs_meaning.proofs.Each.{each_snoc}
use Rattle.qs_text.specs.audit.Texts.{texts_up_to}

-- the text of one more place
pub one_place_more : (text : ℕ → List ℕ) (n : ℕ) (first before after : List ℕ) → before ≡ first ++ texts_up_to n text → after ≡ before ++ text n
    → after ≡ first ++ texts_up_to (n + 1) text
one_place_more text n first before after e h =
    rw add-one (h ∙ ap (λ l. l ++ text n) e ∙ append_assoc first (texts_up_to n text) (text n))

-- what holds at each place, and at one more
pub each_place_more : (P : ℕ → Type 0) (n : ℕ) → ((i : ℕ) → i < n → P i) → P n → (i : ℕ) → i < n + 1 → P i
each_place_more P n before last i less = by_case (eq-or-lt_of_le (let h : i ≤ n = omega (arith, less) in h))
  where
    by_case : (i ≡ n) ⊎ (i < n) → P i
    by_case (inl is) = subst P (sym is) last
    by_case (inr earlier) = before i earlier

-- what holds at each place of a list
pub at_each_place : {X : Type 0} (P : X → Type 0) (d : X) (xs : List X) → ((i : ℕ) → i < length xs → P (get_or xs i d)) → AllByRecursion P xs
at_each_place P d [] each = search
at_each_place P d (x ∷ xs) each = (each 0 (omega arith), at_each_place P d xs (λ i less. each (suc i) (omega (arith, less))))

-- texts that were made of the elements of a list, each of which is as it should be, and one more
pub one_made_more : {X Y : Type 0} (bytes : Y → List ℕ) (text : X → List ℕ) (Is : X → Type 0) (xs : List X) (i : ℕ) (x : X) (before after : List Y) (made : Y)
    → i < length xs → x ≡ get_or xs i x → after ≡ before ++ made ∷ [] → bytes made ≡ text x → Is x
    → (map bytes before ≡ map text (take i xs)) × AllByRecursion Is (take i xs) → (map bytes after ≡ map text (take (i + 1) xs)) × AllByRecursion Is (take (i + 1) xs)
one_made_more bytes text Is xs i x before after made less is added same fit (so_far, all) =
    let more : take (i + 1) xs ≡ take i xs ++ x ∷ [] = take_more xs i x less ∙ ap (λ y. take i xs ++ y ∷ []) (sym is) in (
      ap (map bytes) added ∙ map_push bytes before made ∙ ap₂ (λ ts t. ts ++ t ∷ []) so_far same ∙ sym (map_push text (take i xs) x) ∙ ap (map text) (sym more),
      subst (AllByRecursion Is) (sym more) (each_snoc Is (take i xs) x all fit),
    )

-- the text of one more item of a list
pub one_item_more : {X : Type 0} (text : X → List ℕ) (xs : List X) (i : ℕ) (d : X) (first before after : List ℕ) → i < length xs
    → before ≡ first ++ flat_map text (take i xs) → after ≡ before ++ text (get_or xs i d) → after ≡ first ++ flat_map text (take (i + 1) xs)
one_item_more text xs i d first before after within e h =
    h ∙ ap (λ l. l ++ text (get_or xs i d)) e ∙ flat_map_more text first (take i xs) (get_or xs i d)
    ∙ ap (λ l. first ++ flat_map text l) (sym (take_more xs i d within))

-- the text at a place, with a text before it unless it is the first
module _ {X : Type 0} (between : List ℕ) (text : X → List ℕ) (d : X) where
  abbrev parted : List X → ℕ → List ℕ
  parted xs i = (if nat_eq i 0 then [] else between) ++ text (get_or xs i d)

  parted_later : (xs : List X) (n : ℕ) → parted xs (suc n) ≡ between ++ text (get_or xs (suc n) d)
  parted_later xs n = let e : nat_eq (suc n) 0 ≡ false = grind (arith, nat_tests) in rw e refl

  -- a first text, and n others
  first_and : (x : X) (xs : List X) (n : ℕ) → n ≤ length xs → texts_up_to (suc n) (parted (x ∷ xs)) ≡ text x ++ flat_map (λ y. between ++ text y) (take n xs)
  first_and x xs zero h = sym (append-nil (text x))
  first_and x xs (suc n) h =
      let other = λ (y : X). between ++ text y in
      ap (λ l. texts_up_to (suc n) (parted (x ∷ xs)) ++ l) (parted_later (x ∷ xs) n)
      ∙ ap (λ l. l ++ other (get_or xs n d)) (first_and x xs n (omega arith))
      ∙ flat_map_more other (text x) (take n xs) (get_or xs n d)
      ∙ ap (λ l. text x ++ flat_map other l) (sym (take-suc xs n d (omega arith)))

  -- the texts at all places of a list, with that text between each two
  pub all_parted : (xs : List X) → texts_up_to (length xs) (parted xs) ≡ join_by text between xs
  all_parted [] = refl
  all_parted (x ∷ xs) =
      first_and x xs (length xs) (omega arith)
      ∙ ap (λ l. text x ++ flat_map (λ y. between ++ text y) l) (take_all (length xs) xs (omega arith))
