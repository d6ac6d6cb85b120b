-- How the loops over a text's bytes find the lines of its anchors: a line's anchors are counted piece by piece, and the
-- lines of a text follow one after another.
use Rattle.std.proofs.Common.{◌≡◌, ◌≢◌, ℕ, ◌+◌, ◌-◌, ◌≤◌, ◌<◌, Bool, true, false, if◌then◌else◌, nat_eq, List, [], ◌∷◌, ◌++◌, length, get_or, take, drop, map, replicate, Result, Ok, Err, refl, ap, sym, ◌∙◌, append_assoc, length-drop, arith}
use Rattle.qs_dot.proofs.Common.{nat_tests, drop_more, map-append, take_more, get_or-drop, Token, TokenFault, anchors_in, is_anchor, anchors_from, its_line, line_anchors, lines_in, numbered, rules}

pub anchors_joined : (ts us : List Token) → anchors_in (ts ++ us) ≡ anchors_in ts ++ anchors_in us
anchors_joined [] us = refl
anchors_joined (t ∷ ts) us =
    ap (λ ws. (if is_anchor t then t ∷ [] else []) ++ ws) (anchors_joined ts us)
    ∙ sym (append_assoc (if is_anchor t then t ∷ [] else []) (anchors_in ts) (anchors_in us))

-- so many anchors and those of some tokens; none at all, where one of these is at fault
abbrev pub counted : ℕ → Result (List Token) TokenFault → ℕ
counted n (Ok ts) = n + length (anchors_in ts)
counted n (Err e) = 0

-- the number of a line, once for each of its anchors
repeated : (n : ℕ) (ts : List Token) → map its_line (map (λ t. (t, n)) ts) ≡ replicate (length ts) n
repeated n [] = refl
repeated n (t ∷ ts) = ap (λ l. n ∷ l) (repeated n ts)

pub lines_repeated : (n : ℕ) (line : List ℕ) → lines_in n line ≡ replicate (length (line_anchors line)) n
lines_repeated n line = repeated n (line_anchors line)

-- the lines of the anchors of a text, after some bytes of the line of this number
abbrev pub lines_from : ℕ → (begun text : List ℕ) → List ℕ
lines_from n begun text = map its_line (anchors_from n begun text)

is_lf : (b : ℕ) → b ≡ 10 → nat_eq b 10 ≡ true
is_lf b h = grind (arith, nat_tests)

not_lf : (b : ℕ) → b ≢ 10 → nat_eq b 10 ≡ false
not_lf b h = grind (arith, nat_tests)

-- the bytes of a line so far, and one more
more_bytes : (text : List ℕ) (start i : ℕ) → start ≤ i → i < length text
    → take (i + 1 - start) (drop start text) ≡ take (i - start) (drop start text) ++ get_or text i 0 ∷ []
more_bytes text start i before within =
    let inside : i - start < length (drop start text) = omega (arith, length-drop start text, before, within) in
    let same : start + (i - start) ≡ i = omega (arith, before) in
    ap (λ n. take n (drop start text)) (omega (arith, before))
    ∙ take_more (drop start text) (i - start) 0 inside
    ∙ ap (λ b. take (i - start) (drop start text) ++ b ∷ []) (get_or-drop start text (i - start) 0 ∙ ap (λ k. get_or text k 0) same)

module _ (text : List ℕ) (n start i : ℕ) (lines all : List ℕ) (before : start ≤ i) (within : i < length text)
    (h : lines ++ lines_from n (take (i - start) (drop start text)) (drop i text) ≡ all) where
  at : (b : Bool) → nat_eq (get_or text i 0) 10 ≡ b
      → lines_from n (take (i - start) (drop start text)) (drop i text)
      ≡ map its_line (if b then numbered n (take (i - start) (drop start text)) ++ anchors_from (n + 1) [] (drop (i + 1) text)
      else anchors_from n (take (i - start) (drop start text) ++ get_or text i 0 ∷ []) (drop (i + 1) text))
  at b e = search (rules, drop_more)

  -- a byte of the line
  pub passed : get_or text i 0 ≢ 10 → lines ++ lines_from n (take (i + 1 - start) (drop start text)) (drop (i + 1) text) ≡ all
  passed e =
      ap (λ l. lines ++ lines_from n l (drop (i + 1) text)) (more_bytes text start i before within)
      ∙ ap (λ l. lines ++ l) (sym (at false (not_lf (get_or text i 0) e))) ∙ h

  -- the end of the line
  pub ended : (new : List ℕ) → get_or text i 0 ≡ 10 → new ≡ lines ++ lines_in n (take (i - start) (drop start text))
      → new ++ lines_from (n + 1) (take (i + 1 - (i + 1)) (drop (i + 1) text)) (drop (i + 1) text) ≡ all
  ended new e f =
      let next = lines_from (n + 1) [] (drop (i + 1) text) in
      let none : i + 1 - (i + 1) ≡ 0 = omega arith in
      ap (λ k. new ++ lines_from (n + 1) (take k (drop (i + 1) text)) (drop (i + 1) text)) none
      ∙ ap (λ l. l ++ next) f ∙ append_assoc lines (lines_in n (take (i - start) (drop start text))) next
      ∙ ap (λ l. lines ++ l) (sym (map-append its_line (numbered n (take (i - start) (drop start text))) (anchors_from (n + 1) [] (drop (i + 1) text))))
      ∙ ap (λ l. lines ++ l) (sym (at true (is_lf (get_or text i 0) e))) ∙ h
