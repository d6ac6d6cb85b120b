-- The lines of a text before a place, as `line_of` passes them over: their tokens come before those of the rest,
-- whatever the rest is. It stands on the law that a line feed ends what has begun.
use Rattle.std.proofs.Common.{◌≡◌, ℕ, suc, ◌+◌, ◌-◌, ◌<◌, ◌≤◌, Bool, true, false, nat_eq, nat_lt, if◌then◌else◌, List, [], ◌∷◌, ◌++◌, length, take, drop, get_or, refl, ap, sym, ◌∙◌, arith, add-one, append_assoc, append-nil, length-append, length-drop, Result, Ok, Err, take-append-drop, take_all, length-take-le, get_or-drop}
use Rattle.std.proofs.lemmas.List.{get_or_at}
use Rattle.std.proofs.lemmas.List.Sums.{fold_more}
use Rattle.std.proofs.Math.Seq.{take-append_seam}
use Rattle.qs_diagnosis.specs.Spots.{begin, line_length, line_end_at, moved, spot_at}
use Rattle.qs_script.specs.Types.{Token, TokenFault}
use Rattle.qs_script.specs.audit.tokens.Tokens.{after, tokens_of}
use Rattle.qs_script.proofs.tokens.Lexemes.{then_tokens, after-after}
use Rattle.qs_script.proofs.tokens.ByLine.{by_line}
use Rattle.qs_script.proofs.grammar.Readings.{both_err}
use Rattle.qs_script.specs.Lines.{IsLine, IsFaultLine, IsTokenLine, line_from}

abbrev Tokens : Type 0
Tokens = Result (List Token) TokenFault

-- after the bytes before a place, which have these tokens, anything has its own
pub record IsFront (text : List ℕ) (place : ℕ) (us : List Token) : Type 0 where
  pub joins : (ys : List ℕ) → tokens_of (take place text ++ ys) ≡ after us (tokens_of ys)

front_tokens : (text : List ℕ) (place : ℕ) (us : List Token) → IsFront text place us → tokens_of (take place text) ≡ Ok us
front_tokens text place us h =
    ap tokens_of (sym (append-nil (take place text))) ∙ h.joins [] ∙ ap Ok (append-nil us)

rest_tokens : (text : List ℕ) (place : ℕ) (us : List Token) → IsFront text place us → tokens_of text ≡ after us (tokens_of (drop place text))
rest_tokens text place us h = ap tokens_of (sym (take-append-drop place text)) ∙ h.joins (drop place text)

-- the bytes after a line: a line feed, where there are some
split_step : (lf : Bool) (b : ℕ) (bs : List ℕ) → nat_eq b 10 ≡ lf → (line_length bs < length bs → bs ≡ take (line_length bs) bs ++ 10 ∷ drop (suc (line_length bs)) bs)
    → (if lf then 0 else line_length bs + 1) < suc (length bs)
    → b ∷ bs ≡ take (if lf then 0 else line_length bs + 1) (b ∷ bs) ++ 10 ∷ drop (suc (if lf then 0 else line_length bs + 1)) (b ∷ bs)
split_step true b bs e ih some = let is : b ≡ 10 = grind arith in rw is refl
split_step false b bs e ih some = rw add-one (ap (λ xs. b ∷ xs) (ih (omega arith)))

split : (bs : List ℕ) → line_length bs < length bs → bs ≡ take (line_length bs) bs ++ 10 ∷ drop (suc (line_length bs)) bs
split [] some = absurd (omega arith)
split (b ∷ bs) some = split_step (nat_eq b 10) b bs refl (split bs) some

line_within : (bs : List ℕ) → line_length bs ≤ length bs
line_within [] = omega arith
line_within (b ∷ bs) = grind (arith, line_within bs)

feed_at : (bs : List ℕ) → line_length bs < length bs → get_or bs (line_length bs) 0 ≡ 10
feed_at bs some =
    ap (λ xs. get_or xs (line_length bs) 0) (split bs some)
    ∙ get_or_at (take (line_length bs) bs) 10 (drop (suc (line_length bs)) bs) 0 (line_length bs) (length-take-le (line_length bs) bs (line_within bs))

-- the tokens from a place on begin with those of its line
of_line : (bs : List ℕ) → line_length bs < length bs → tokens_of bs ≡ then_tokens (tokens_of (take (line_length bs) bs)) (drop (suc (line_length bs)) bs)
of_line bs some = ap tokens_of (split bs some) ∙ by_line (take (line_length bs) bs) (drop (suc (line_length bs)) bs)

of_last_line : (bs : List ℕ) → length bs ≤ line_length bs → tokens_of bs ≡ tokens_of (take (line_length bs) bs)
of_last_line bs last = ap tokens_of (sym (take_all (line_length bs) bs last))

-- the bytes up to and with the line feed
next_bytes : (text : List ℕ) (place : ℕ) → place ≤ length text → line_end_at text place < length (drop place text)
    → take (place + line_end_at text place + 1) text ≡ take place text ++ (line_from text place ++ 10 ∷ [])
next_bytes text place within some =
    let bs = drop place text in
    let here = line_from text place in
    let rest = drop (suc (line_length bs)) bs in
    let before = take place text ++ (here ++ 10 ∷ []) in
    let whole : text ≡ before ++ rest =
    sym (take-append-drop place text) ∙ ap (λ xs. take place text ++ xs) (split bs some) ∙ sym (regroup (take place text) here (10 ∷ []) rest) in
    let size : length before ≡ place + line_end_at text place + 1 =
    omega (arith, length-append (take place text) (here ++ 10 ∷ []), length-append here (10 ∷ []), length-take-le place text within, length-take-le (line_length bs) bs (line_within bs)) in
    ap (take (place + line_end_at text place + 1)) whole ∙ ap (λ m. take m (before ++ rest)) (sym size) ∙ take-append_seam before rest
  where
    regroup : (a b c d : List ℕ) → (a ++ (b ++ c)) ++ d ≡ a ++ (b ++ (c ++ d))
    regroup a b c d = simp append_assoc

-- the next line begins after the line feed
pub next_front : (text : List ℕ) (place : ℕ) (us vs : List Token) → IsFront text place us → place ≤ length text → line_end_at text place < length (drop place text)
    → tokens_of (line_from text place) ≡ Ok vs → IsFront text (place + line_end_at text place + 1) (us ++ vs)
next_front text place us vs h within some cut = record {
  joins = λ ys. ap (λ xs. tokens_of (xs ++ ys)) (next_bytes text place within some) ∙ ap tokens_of (regroup (take place text) (line_from text place) ys)
      ∙ h.joins (line_from text place ++ 10 ∷ ys) ∙ ap (after us) (by_line (line_from text place) ys ∙ ap (λ r. then_tokens r ys) cut)
      ∙ after-after us vs (tokens_of ys);
}
  where
    regroup : (a b ys : List ℕ) → (a ++ (b ++ 10 ∷ [])) ++ ys ≡ a ++ (b ++ 10 ∷ ys)
    regroup a b ys = simp append_assoc

pub next_first : (text : List ℕ) (place : ℕ) → place ≤ length text → line_end_at text place < length (drop place text)
    → (spot_at text (place + line_end_at text place + 1)).column ≡ 1
next_first text place within some =
    let at = place + line_end_at text place in
    let feed : get_or text at 0 ≡ 10 = sym (get_or-drop place text (line_end_at text place) 0) ∙ feed_at (drop place text) some in
    let more : spot_at text (at + 1) ≡ moved (spot_at text at) (get_or text at 0) = fold_more moved begin text at 0 (omega (arith, length-drop place text)) in
    ap (λ s. s.column) (more ∙ ap (moved (spot_at text at)) feed)

pub is_line : (text : List ℕ) (place : ℕ) (us : List Token) → IsFront text place us → place ≤ length text → (spot_at text place).column ≡ 1 → IsLine text (spot_at text place).line place us
is_line text place us h within first = record { within = within; first = first; number = refl; tokens = front_tokens text place us h }

-- the tokens of a text, where those of its line are known: it has the line's fault, or those tokens and more
faulty : (us : List Token) (bs : List ℕ) (e : TokenFault) (is_inner : Bool) → nat_lt (line_length bs) (length bs) ≡ is_inner → tokens_of (take (line_length bs) bs) ≡ Err e
    → after us (tokens_of bs) ≡ Err e
faulty us bs e true inner cut = ap (after us) (of_line bs (grind arith) ∙ ap (λ r. then_tokens r (drop (suc (line_length bs)) bs)) cut)
faulty us bs e false last cut = ap (after us) (of_last_line bs (grind arith) ∙ cut)

pub fault_there : (text : List ℕ) (place : ℕ) (us : List Token) (e : TokenFault) → IsFront text place us → tokens_of (line_from text place) ≡ Err e → tokens_of text ≡ Err e
fault_there text place us e h cut =
    rest_tokens text place us h ∙ faulty us (drop place text) e (nat_lt (line_end_at text place) (length (drop place text))) refl cut

as_many : (us vs ts : List Token) (r : Tokens) → after us (after vs r) ≡ Ok ts → length us + length vs ≤ length ts
as_many us vs ts (Ok ws) is =
    let same : us ++ (vs ++ ws) ≡ ts = cc in
    omega (arith, ap length same, length-append us (vs ++ ws), length-append vs ws)
as_many us vs ts (Err e) is = cc

many : (us vs ts : List Token) (bs : List ℕ) (is_inner : Bool) → nat_lt (line_length bs) (length bs) ≡ is_inner → tokens_of (take (line_length bs) bs) ≡ Ok vs
    → after us (tokens_of bs) ≡ Ok ts → length us + length vs ≤ length ts
many us vs ts bs true inner cut is =
    let rest = drop (suc (line_length bs)) bs in
    let whole : tokens_of bs ≡ after vs (tokens_of rest) = of_line bs (grind arith) ∙ ap (λ r. then_tokens r rest) cut in
    as_many us vs ts (tokens_of rest) (ap (after us) (sym whole) ∙ is)
many us vs ts bs false last cut is =
    let whole : tokens_of bs ≡ Ok vs = of_last_line bs (grind arith) ∙ cut in
    let same : us ++ vs ≡ ts = cc in
    omega (arith, ap length same, length-append us vs)

pub tokens_there : (text : List ℕ) (place : ℕ) (us vs ts : List Token) → IsFront text place us → tokens_of (line_from text place) ≡ Ok vs → tokens_of text ≡ Ok ts
    → length us + length vs ≤ length ts
tokens_there text place us vs ts h cut is =
    many us vs ts (drop place text) (nat_lt (line_end_at text place) (length (drop place text))) refl cut (sym (rest_tokens text place us h) ∙ is)

-- what is known of a line whose tokens, or whose fault, are known
pub fault_line : (text : List ℕ) (place : ℕ) (us : List Token) (e f : TokenFault) → IsFront text place us → place ≤ length text → (spot_at text place).column ≡ 1
    → tokens_of (line_from text place) ≡ Err e → tokens_of text ≡ Err f → IsFaultLine text f (spot_at text place).line
fault_line text place us e f h within first cut is = record {
  place = place;
  before = us;
  there = is_line text place us h within first;
  at_fault = cut ∙ ap Err (both_err (tokens_of text) e f (fault_there text place us e h cut) is);
}

pub token_line : (text : List ℕ) (place : ℕ) (us vs : List Token) (number left : ℕ) → IsFront text place us → place ≤ length text → (spot_at text place).column ≡ 1
    → tokens_of (line_from text place) ≡ Ok vs → length us + left ≡ number → left < length vs → IsTokenLine text number (spot_at text place).line
token_line text place us vs number left h within first cut sum less = record {
  place = place;
  before = us;
  there = is_line text place us h within first;
  here = vs;
  cut = cut;
  not_before = omega arith;
  not_after = omega arith;
}

-- what is cut of a line, by where it ends
pub line_cut : (text : List ℕ) (place end : ℕ) (r : Tokens) → end ≡ place + line_end_at text place → tokens_of (take (end - place) (drop place text)) ≡ r
    → tokens_of (line_from text place) ≡ r
line_cut text place end r is cut =
    let n : line_end_at text place ≡ end - place = omega arith in ap (λ m. tokens_of (take m (drop place text))) n ∙ cut
