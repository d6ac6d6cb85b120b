-- When writing stops at a fault, what was written is a front of the whole text, also where the text is written in
-- parts. The functions `write_text` and `write_texts` promise this. The parts that were written whole are joined with
-- the front of the part at which the writing stopped.
use Rattle.std.proofs.Common.{◌≡◌, ℕ, suc, ◌<◌, ◌-◌, List, ◌∷◌, ◌++◌, length, take, drop, get_or, Option, sym, ap, subst, ◌∙◌, append_assoc, take-append-drop, flat_map}
use Rattle.std.proofs.Math.Seq.{split_at}
use Rattle.std.proofs.lemmas.List.{take_rest}
use Rattle.std.proofs.lemmas.Grind.{flat_map-append}
use Rattle.std.specs.Io.KnownBytes.{Appends}
use Rattle.std.proofs.KnownBytes.{Appends-trans}
use Rattle.qs_text.specs.Texts.{AppendsFront}

-- n more elements are done
pub moves_front : (all done rest : List ℕ) (n : ℕ) → all ≡ done ++ rest → all ≡ (done ++ take n rest) ++ take (length rest - n) (drop n rest)
moves_front all done rest n e =
    e ∙ ap (λ l. done ++ l) (sym (take-append-drop n rest)) ∙ sym (append_assoc done (take n rest) (drop n rest))
    ∙ ap (λ l. (done ++ take n rest) ++ l) (sym (take_rest rest n))

-- a front of the first part
pub front_first : (a b : Option (List ℕ)) (t u : List ℕ) → AppendsFront a b t → AppendsFront a b (t ++ u)
front_first a b t u (done, later, e, h) = (done, later ++ u, ap (λ l. l ++ u) e ∙ append_assoc done later u, h)

-- the first part, and a front of the second
pub front_then : (a b c : Option (List ℕ)) (t u : List ℕ) → Appends a b t → AppendsFront b c u → AppendsFront a c (t ++ u)
front_then a b c t u first (done, later, e, h) =
    (t ++ done, later, ap (λ l. t ++ l) e ∙ sym (append_assoc t done later), Appends-trans a b c t done first h)

-- the parts before the i-th, and a front of that
pub front_of_parts : {X : Type 0} (f : X → List ℕ) (a b c : Option (List ℕ)) (xs : List X) (i : ℕ) (d : X) → i < length xs → Appends a b (flat_map f (take i xs)) → AppendsFront b c (f (get_or xs i d)) → AppendsFront a c (flat_map f xs)
front_of_parts f a b c xs i d lt first second =
    let cut = ap (flat_map f) (split_at xs i d lt) ∙ flat_map-append f (take i xs) (get_or xs i d ∷ drop (suc i) xs) in
    subst (AppendsFront a c) (sym cut) (front_then a b c _ _ first (front_first b c _ _ second))
