-- A text has at least a byte for each of its tokens. The law of `qs_script` that bounds the statements of a script
-- stands on it. It goes by induction on the bytes, each of which adds at most one token, where a token that has begun
-- and is not over is counted already.
use Rattle.std.proofs.Common.{◌≡◌, ℕ, ◌≤◌, ◌+◌, Bool, true, false, if◌then◌else◌, List, [], ◌∷◌, ◌++◌, length, arith, Option, Some, None, Result, Ok, Err, length-append, nat_eq, nat_lt}
use Rattle.qs_script.specs.Types.{Token, TokenFault}
use Rattle.qs_script.specs.declared.tokens.lex.TokenFault.TheVariants.{Number, Name}
use Rattle.qs_script.specs.declared.tokens.token.Token.TheVariants as t
use Rattle.qs_script.specs.audit.tokens.Tokens.{is_letter, is_digit, is_space, is_name_byte, word_token, value_of, Pending, nothing, word, digits, comment, sign, Step, over, tokens_from, tokens_of, after, ends, first_byte, before, byte_step, going_on, any_sign, single_sign, at, signs, equals_signs}
use Rattle.qs_script.specs.audit.tokens.Limits.{longest_name}

-- how many tokens what has begun may still make
abbrev weight : Pending → ℕ
weight nothing = 0
weight comment = 0
weight _ = 1

-- at most n tokens
abbrev Few : ℕ → Result (List Token) TokenFault → Type 0
Few n (Ok ts) = length ts ≤ n
Few n (Err e) = Unit {0}

-- at most n tokens, those that may still come with them
abbrev FewAfter : ℕ → Step → Type 0
FewAfter n (Ok p) = length p.0 + weight p.1 ≤ n
FewAfter n (Err e) = Unit {0}

few_if : (b : Bool) (n : ℕ) (x y : Step) → FewAfter n x → FewAfter n y → FewAfter n (if b then x else y)
few_if true n x y h k = h
few_if false n x y h k = k

few_single : (s : Option Token) → FewAfter 1 (single_sign s)
few_single None = tt
few_single (Some s) = omega arith

few_sign : (b : ℕ) (s : Option (Option Token × Token)) → FewAfter 1 (any_sign b s)
few_sign b None = few_single (at b signs)
few_sign b (Some p) = omega arith

few_comment : (b : ℕ) → FewAfter 1 (if nat_eq b 35 then Ok ([], comment) else any_sign b (at b equals_signs))
few_comment b = few_if (nat_eq b 35) 1 (Ok ([], comment)) (any_sign b (at b equals_signs)) (omega arith) (few_sign b (at b equals_signs))

abbrev unless : Bool → Step → Step → Step
unless b x y = if b then x else y

few_begun_by : (letter digit space : Bool) (b : ℕ) (other : Step) → FewAfter 1 other → FewAfter 1 (unless letter (Ok ([], word (b ∷ []))) (unless digit (Ok ([], digits (b ∷ []))) (unless space (Ok ([], nothing)) other)))
few_begun_by false false false b other h = h
few_begun_by _ _ _ b other h = omega arith

few_begun : (b : ℕ) → FewAfter 1 (first_byte b)
few_begun b = few_begun_by (is_letter b) (is_digit b) (is_space b) b (if nat_eq b 35 then Ok ([], comment) else any_sign b (at b equals_signs)) (few_comment b)

few_long : (long : Bool) (fault : TokenFault) (token : Token) → Few 1 (if long then Err fault else Ok (token ∷ []))
few_long true fault token = tt
few_long false fault token = omega arith

few_over : (p : Pending) → Few (weight p) (over p)
few_over (word w) = few_long (nat_lt longest_name (length w)) Name (word_token w)
few_over (digits ds) = few_long (nat_lt 18 (length ds)) Number (t.Number (value_of ds))
few_over (sign None both) = tt
few_over _ = omega arith

few_before : (n : ℕ) (ts : List Token) (s : Step) → length ts ≤ n → FewAfter 1 s → FewAfter (n + 1) (before ts s)
few_before n ts (Ok p) h k = omega (arith, length-append ts p.0)
few_before n ts (Err e) h k = tt

few_ends : (n : ℕ) (r : Result (List Token) TokenFault) (b : ℕ) → Few n r → FewAfter (n + 1) (ends r b)
few_ends n (Ok ts) b h = few_before n ts (first_byte b) h (few_begun b)
few_ends n (Err e) b h = tt

few_step : (p : Pending) (b : ℕ) → FewAfter (weight p + 1) (byte_step p b)
few_step nothing b = few_begun b
few_step (word w) b =
    few_if (is_name_byte b) 2 (Ok ([], word (w ++ b ∷ []))) (ends (over (word w)) b) (omega arith) (few_ends 1 (over (word w)) b (few_over (word w)))
few_step (digits ds) b =
    few_if (is_digit b) 2 (Ok ([], digits (ds ++ b ∷ []))) (ends (over (digits ds)) b) (omega arith) (few_ends 1 (over (digits ds)) b (few_over (digits ds)))
few_step comment b = few_if (nat_eq b 10) 1 (Ok ([], nothing)) (Ok ([], comment)) (omega arith) (omega arith)
few_step (sign alone both) b =
    few_if (nat_eq b 61) 2 (Ok (both ∷ [], nothing)) (ends (over (sign alone both)) b) (omega arith) (few_ends 1 (over (sign alone both)) b (few_over (sign alone both)))

few_after : (n m : ℕ) (ts : List Token) (r : Result (List Token) TokenFault) → length ts + m ≤ n → Few m r → Few n (after ts r)
few_after n m ts (Ok us) h k = omega (arith, length-append ts us)
few_after n m ts (Err e) h k = tt

few_next : (n k : ℕ) (s : Step) (bs : List ℕ) → FewAfter n s → ((p : Pending) → Few (weight p + k) (tokens_from p bs)) → Few (n + k) (going_on s (λ q. tokens_from q bs))
few_next n k (Ok p) bs h ih = few_after (n + k) (weight p.1 + k) p.0 (tokens_from p.1 bs) (omega arith) (ih p.1)
few_next n k (Err e) bs h ih = tt

few_same : (n m : ℕ) (r : Result (List Token) TokenFault) → n ≤ m → Few n r → Few m r
few_same n m (Ok ts) h k = omega arith
few_same n m (Err e) h k = tt

few_from : (bs : List ℕ) (p : Pending) → Few (weight p + length bs) (tokens_from p bs)
few_from [] p = few_same (weight p) (weight p + 0) (over p) (omega arith) (few_over p)
few_from (b ∷ bs) p =
    few_same (weight p + 1 + length bs) (weight p + length (b ∷ bs)) (tokens_from p (b ∷ bs)) (omega arith)
    (few_next (weight p + 1) (length bs) (byte_step p b) bs (few_step p b) (few_from bs))

pub tokens_within : (text : List ℕ) (ts : List Token) → tokens_of text ≡ Ok ts → length ts ≤ length text
tokens_within text ts cut =
    let few : Few (0 + length text) (tokens_of text) = few_from text nothing in omega (arith, rw cut at few)
