-- The first token of a text is what stands at its front, a name, digits, a comment or a sign, and the other tokens are
-- those of the rest of the text. The functions that cut off one token, such as `front_word` and `front_number`, stand
-- on it. The definition goes byte by byte, so the proof goes by induction on the bytes that belong to the token.
use Rattle.std.proofs.Common.{◌≡◌, ◌≢◌, ℕ, ◌+◌, ◌<◌, get_or, nat_eq, not, ◌≤◌, min, zero, suc, Bool, true, false, if◌then◌else◌, List, [], ◌∷◌, ◌++◌, length, take, drop, refl, ap, sym, ◌∙◌, append_assoc, append-nil, one-add, All, IsTrue, Option, Some, None, Result, Ok, Err, arith, length-take-le, ltb}
use Rattle.std.proofs.lemmas.List.Elements.{All-cons, All-nil}
use Rattle.qs_script.specs.Types.{Token, TokenFault}
use Rattle.qs_script.specs.declared.tokens.lex.TokenFault.TheVariants.{Number, Name}
use Rattle.qs_script.specs.audit.tokens.Tokens.{Pending, nothing, word, digits, comment, sign, is_name_byte, is_letter, is_digit, is_space, word_token, value_of, Step, over, tokens_from, tokens_of, after, ends, first_byte, before, byte_step, going_on, any_sign, single_sign, at, equals_signs}
use Rattle.qs_script.specs.declared.tokens.token.Token.TheVariants as t
use Rattle.qs_script.specs.tokens.Cutting.{run_of, alone, with_equals as with_equals_of}
use Rattle.qs_script.specs.audit.tokens.Limits.{longest_name}

abbrev Tokens : Type 0
Tokens = Result (List Token) TokenFault

-- what comes after a token that is over
abbrev pub then_tokens : Tokens → List ℕ → Tokens
then_tokens (Ok ts) bs = after ts (tokens_of bs)
then_tokens (Err e) bs = Err e

pub after-after : (ts us : List Token) (r : Tokens) → after ts (after us r) ≡ after (ts ++ us) r
after-after ts us (Ok vs) = rw append_assoc refl
after-after ts us (Err e) = refl

pub after-nil : (r : Tokens) → after [] r ≡ r
after-nil (Ok ts) = refl
after-nil (Err e) = refl

begun_next : (ts : List Token) (s : Step) (bs : List ℕ) → going_on (before ts s) (λ q. tokens_from q bs) ≡ after ts (going_on s (λ q. tokens_from q bs))
begun_next ts (Ok p) bs = sym (after-after ts p.0 (tokens_from p.1 bs))
begun_next ts (Err e) bs = refl

then_ends : (r : Tokens) (b : ℕ) (bs : List ℕ) → going_on (ends r b) (λ q. tokens_from q bs) ≡ then_tokens r (b ∷ bs)
then_ends (Ok ts) b bs = begun_next ts (first_byte b) bs
then_ends (Err e) b bs = refl

then_nil : (r : Tokens) → r ≡ then_tokens r []
then_nil (Ok ts) = rw append-nil refl
then_nil (Err e) = refl

-- a run of bytes that pass the test: a name or digits
module _ (test : ℕ → Bool) (run : List ℕ → Pending)
    (steps : (w : List ℕ) (b : ℕ) → byte_step (run w) b ≡ (if test b then Ok ([], run (w ++ b ∷ [])) else ends (over (run w)) b)) where
  -- one byte after a run: the test's answer decides
  run_step : (passes : Bool) (w : List ℕ) (b : ℕ) (bs : List ℕ) → tokens_from (run (w ++ b ∷ [])) bs ≡ then_tokens (over (run ((w ++ b ∷ []) ++ take (run_of test bs) bs))) (drop (run_of test bs) bs)
      → going_on (if passes then Ok ([], run (w ++ b ∷ [])) else ends (over (run w)) b) (λ q. tokens_from q bs)
      ≡ then_tokens (over (run (w ++ take (if passes then 1 + run_of test bs else 0) (b ∷ bs)))) (drop (if passes then 1 + run_of test bs else 0) (b ∷ bs))
  run_step true w b bs h = after-nil _ ∙ h ∙ rw (append_assoc, one-add) refl
  run_step false w b bs h = then_ends (over (run w)) b bs ∙ rw append-nil refl

  -- a run goes on as far as it can, and then it is over
  run_goes : (w bs : List ℕ) → tokens_from (run w) bs ≡ then_tokens (over (run (w ++ take (run_of test bs) bs))) (drop (run_of test bs) bs)
  run_goes w [] = then_nil (over (run w)) ∙ ap (λ x. then_tokens (over (run x)) []) (sym (append-nil w))
  run_goes w (b ∷ bs) = ap (λ s. going_on s (λ q. tokens_from q bs)) (steps w b) ∙ run_step (test b) w b bs (run_goes (w ++ b ∷ []) bs)

  -- the run at the front of a text whose first byte begins one
  front_run : (b : ℕ) (bs : List ℕ) → first_byte b ≡ Ok ([], run (b ∷ [])) → test b ≡ true → tokens_of (b ∷ bs) ≡ then_tokens (over (run (take (run_of test (b ∷ bs)) (b ∷ bs)))) (drop (run_of test (b ∷ bs)) (b ∷ bs))
  front_run b bs e passes =
      ap (λ s. going_on s (λ q. tokens_from q bs)) e ∙ after-nil (tokens_from (run (b ∷ [])) bs) ∙ run_goes (b ∷ []) bs ∙ rw (passes, one-add) refl

-- the name or reserved word at the front
pub front_name : (text name rest : List ℕ) (n : ℕ) → 0 < length text → is_letter (get_or text 0 0) ≡ true → n ≡ run_of is_name_byte text → name ≡ take n text → rest ≡ drop n text → tokens_of text ≡ then_tokens (over (word name)) rest
front_name [] name rest n some e en ename erest = absurd (omega arith)
front_name (b ∷ bs) name rest n some e en ename erest =
    front_run is_name_byte word (λ w c. refl) b bs (rw e refl) (rw e refl)
    ∙ rw (ename, erest, en) refl

-- the digits at the front
pub front_digits : (text ds rest : List ℕ) (n : ℕ) → 0 < length text → is_letter (get_or text 0 0) ≡ false → is_digit (get_or text 0 0) ≡ true → n ≡ run_of is_digit text → ds ≡ take n text → rest ≡ drop n text → tokens_of text ≡ then_tokens (over (digits ds)) rest
front_digits [] ds rest n some not_letter e en eds erest = absurd (omega arith)
front_digits (b ∷ bs) ds rest n some not_letter e en eds erest =
    front_run is_digit digits (λ w c. refl) b bs (rw (not_letter, e) refl) e ∙ rw (eds, erest, en) refl

pub name_too_long : (name rest : List ℕ) → 16 < length name → then_tokens (over (word name)) rest ≡ Err Name
name_too_long name rest h = let e : ltb 16 (length name) ≡ true = grind arith in rw e refl

pub name_short : (name rest : List ℕ) → length name ≤ longest_name → then_tokens (over (word name)) rest ≡ after (word_token name ∷ []) (tokens_of rest)
name_short name rest h = let e : ltb 16 (length name) ≡ false = grind arith in rw e refl

pub digits_too_long : (ds rest : List ℕ) → 18 < length ds → then_tokens (over (digits ds)) rest ≡ Err Number
digits_too_long ds rest h = let e : ltb 18 (length ds) ≡ true = grind arith in rw e refl

pub digits_short : (ds rest : List ℕ) → length ds ≤ 18 → then_tokens (over (digits ds)) rest ≡ after (t.Number (value_of ds) ∷ []) (tokens_of rest)
digits_short ds rest h = let e : ltb 18 (length ds) ≡ false = grind arith in rw e refl

-- a run holds only what passes the test
run_step_all : (test : ℕ → Bool) (b : ℕ) (bs : List ℕ) (passes : Bool) → test b ≡ passes → All (λ x. IsTrue (test x)) (take (run_of test bs) bs) → All (λ x. IsTrue (test x)) (take (if passes then 1 + run_of test bs else 0) (b ∷ bs))
run_step_all test b bs true e h = rw one-add (All-cons (λ x. IsTrue (test x)) b (take (run_of test bs) bs) e h)
run_step_all test b bs false e h = All-nil (λ x. IsTrue (test x))

pub run_passes : (test : ℕ → Bool) (bs : List ℕ) → All (λ x. IsTrue (test x)) (take (run_of test bs) bs)
run_passes test [] = All-nil (λ x. IsTrue (test x))
run_passes test (b ∷ bs) = run_step_all test b bs (test b) refl (run_passes test bs)

-- a comment goes on up to a LF
abbrev pub in_comment : ℕ → Bool
in_comment b = not (nat_eq b 10)

comment_step : (lf : Bool) (b : ℕ) (bs : List ℕ) → nat_eq b 10 ≡ lf → tokens_from comment bs ≡ tokens_of (drop (run_of in_comment bs) bs)
    → going_on (if lf then Ok ([], nothing) else Ok ([], comment)) (λ q. tokens_from q bs) ≡ tokens_of (drop (if not lf then 1 + run_of in_comment bs else 0) (b ∷ bs))
comment_step true b bs e h = let is : b ≡ 10 = grind arith in rw is refl
comment_step false b bs e h = after-nil _ ∙ h ∙ rw one-add refl

comment_goes : (bs : List ℕ) → tokens_from comment bs ≡ tokens_of (drop (run_of in_comment bs) bs)
comment_goes [] = refl
comment_goes (b ∷ bs) = comment_step (nat_eq b 10) b bs refl (comment_goes bs)

pub front_comment : (text rest : List ℕ) (n : ℕ) → 0 < length text → get_or text 0 0 ≡ 35 → n ≡ run_of in_comment text → rest ≡ drop n text → tokens_of text ≡ after [] (tokens_of rest)
front_comment [] rest n some e en erest = absurd (omega arith)
front_comment (b ∷ bs) rest n some e en erest =
    rw (erest, en, e, one-add) (ap (after []) (comment_goes bs))

-- the sign at the front
pub front_sign : (text rest : List ℕ) (b : ℕ) → 0 < length text → b ≡ get_or text 0 0 → rest ≡ drop 1 text → is_letter b ≡ false → is_digit b ≡ false → is_space b ≡ false → b ≢ 35 → tokens_of text ≡ going_on (any_sign b (at b equals_signs)) (λ q. tokens_from q rest)
front_sign [] rest b some eb erest no_letter no_digit no_space no_comment = absurd (omega arith)
front_sign (c ∷ bs) rest b some eb erest no_letter no_digit no_space no_comment =
    let e : nat_eq b 35 ≡ false = grind arith in
    rw (← eb, erest, no_letter, no_digit, no_space, e) refl

ends_sign : (alone : Option Token) (both : Token) (b : ℕ) (bs : List ℕ) → then_tokens (over (sign alone both)) (b ∷ bs) ≡ going_on (single_sign alone) (λ q. tokens_from q (b ∷ bs))
ends_sign None both b bs = refl
ends_sign (Some s) both b bs = refl

pub without_equals : (alone : Option Token) (both : Token) (rest : List ℕ) → (0 < length rest → get_or rest 0 0 ≢ 61) → tokens_from (sign alone both) rest ≡ going_on (single_sign alone) (λ q. tokens_from q rest)
without_equals None both [] h = refl
without_equals (Some s) both [] h = refl
without_equals alone both (b ∷ bs) h =
    let other : b ≢ 61 = h (omega arith) in
    let e : nat_eq b 61 ≡ false = grind arith in
    rw e (then_ends (over (sign alone both)) b bs) ∙ ends_sign alone both b bs

-- the sign without = after it, or a byte that is no sign
sign_on_its_own : (b : ℕ) (rest : List ℕ) (p : Option (Option Token × Token)) → (0 < length rest → get_or rest 0 0 ≡ 61 → with_equals_of p ≡ None)
    → going_on (any_sign b p) (λ q. tokens_from q rest) ≡ going_on (single_sign (alone b p)) (λ q. tokens_from q rest)
sign_on_its_own b rest None h = refl
sign_on_its_own b rest (Some p) h =
    after-nil _ ∙ without_equals p.0 p.1 rest (λ some e. let no : Some p.1 ≡ None = h some e in cc)

pub front_one : (text rest : List ℕ) (b : ℕ) (found : Option Token) → 0 < length text → b ≡ get_or text 0 0 → rest ≡ drop 1 text → is_letter b ≡ false → is_digit b ≡ false → is_space b ≡ false → b ≢ 35
    → (0 < length rest → get_or rest 0 0 ≡ 61 → with_equals_of (at b equals_signs) ≡ None) → found ≡ alone b (at b equals_signs)
    → tokens_of text ≡ going_on (single_sign found) (λ q. tokens_from q rest)
front_one text rest b found some eb erest no_letter no_digit no_space no_comment h is =
    front_sign text rest b some eb erest no_letter no_digit no_space no_comment ∙ sign_on_its_own b rest (at b equals_signs) h ∙ rw is refl

-- a word at the front: its token, or that it is too long
pub long_word : (text : List ℕ) (n : ℕ) → 0 < length text → is_letter (get_or text 0 0) ≡ true → n ≡ run_of is_name_byte text → n ≤ length text → 16 < n → tokens_of text ≡ Err Name
long_word text n some letter run within long =
    front_name text (take n text) (drop n text) n some letter run refl refl
    ∙ name_too_long (take n text) (drop n text) (rw (length-take-le n text within) long)

pub short_word : (text rest : List ℕ) (n : ℕ) (token : Token) → 0 < length text → is_letter (get_or text 0 0) ≡ true → n ≡ run_of is_name_byte text → n ≤ length text → n ≤ longest_name
    → rest ≡ drop n text → word_token (take n text) ≡ token → tokens_of text ≡ after (token ∷ []) (tokens_of rest)
short_word text rest n token some letter run within short erest is =
    front_name text (take n text) rest n some letter run refl erest
    ∙ name_short (take n text) rest (rw (length-take-le n text within) short) ∙ rw is refl

-- digits at the front: their number, or that there are too many
pub many_digits : (text : List ℕ) (n : ℕ) → 0 < length text → is_letter (get_or text 0 0) ≡ false → is_digit (get_or text 0 0) ≡ true → n ≡ run_of is_digit text → n ≤ length text → 18 < n → tokens_of text ≡ Err Number
many_digits text n some not_letter digit run within long =
    front_digits text (take n text) (drop n text) n some not_letter digit run refl refl
    ∙ digits_too_long (take n text) (drop n text) (rw (length-take-le n text within) long)

pub few_digits : (text rest : List ℕ) (n value : ℕ) → 0 < length text → is_letter (get_or text 0 0) ≡ false → is_digit (get_or text 0 0) ≡ true → n ≡ run_of is_digit text → n ≤ length text → n ≤ 18
    → rest ≡ drop n text → value ≡ value_of (take n text) → tokens_of text ≡ after (t.Number value ∷ []) (tokens_of rest)
few_digits text rest n value some not_letter digit run within short erest is =
    front_digits text (take n text) rest n some not_letter digit run refl erest
    ∙ digits_short (take n text) rest (rw (length-take-le n text within) short) ∙ rw is refl

-- a run that is looked for in the first bytes alone
run_take_step : (test : ℕ → Bool) (n : ℕ) (b : ℕ) (bs : List ℕ) (passes : Bool) → run_of test (take n bs) ≡ min n (run_of test bs)
    → (if passes then 1 + run_of test (take n bs) else 0) ≡ min (suc n) (if passes then 1 + run_of test bs else 0)
run_take_step test n b bs true h = rw h (omega arith)
run_take_step test n b bs false h = omega arith

pub run_take : (test : ℕ → Bool) (n : ℕ) (bs : List ℕ) → run_of test (take n bs) ≡ min n (run_of test bs)
run_take test (suc n) (b ∷ bs) = run_take_step test n b bs (test b) (run_take test n bs)
run_take test _ _ = omega arith

run_within : (test : ℕ → Bool) (bs : List ℕ) → run_of test bs ≤ length bs
run_within test [] = omega arith
run_within test (b ∷ bs) = grind (arith, run_within test bs)

-- a name of which seventeen bytes were looked at
pub cut_word : (text : List ℕ) (n : ℕ) → 0 < length text → is_letter (get_or text 0 0) ≡ true → n ≡ min 17 (run_of is_name_byte text) → 16 < n → tokens_of text ≡ Err Name
cut_word text n some letter e long =
    long_word text (run_of is_name_byte text) some letter refl (run_within is_name_byte text) (omega (arith, e, long))

-- a name has a byte at least, so what is said of words with its first byte is said of it
word_some : (b : ℕ) (bs : List ℕ) (end : ℕ) → is_letter b ≡ true → end ≡ min 17 (run_of is_name_byte (b ∷ bs)) → 0 < end
word_some b bs end letter is =
    let one : run_of is_name_byte (b ∷ bs) ≡ 1 + run_of is_name_byte bs = rw letter refl in
    omega (arith, one, is)

pub word_begins : (text : List ℕ) (end : ℕ) → 0 < length text → is_letter (get_or text 0 0) ≡ true → end ≡ min 17 (run_of is_name_byte text)
    → (token : List ℕ → Token) → ((bs : List ℕ) → word_token (get_or text 0 0 ∷ bs) ≡ token (get_or text 0 0 ∷ bs)) → word_token (take end text) ≡ token (take end text)
word_begins [] end some letter is token all = absurd (omega arith)
word_begins (b ∷ bs) zero some letter is token all = let some : 0 < 0 = word_some b bs zero letter is in absurd (omega arith)
word_begins (b ∷ bs) (suc m) some letter is token all = all (take m bs)

-- a sign without the = that may follow it
pub sign_alone : (text : List ℕ) (alone both : Token) → 1 < length text → first_byte (get_or text 0 0) ≡ Ok ([], sign (Some alone) both) → get_or text 1 0 ≢ 61
    → tokens_of text ≡ after (alone ∷ []) (tokens_of (drop 1 text))
sign_alone [] alone both some is other = absurd (omega arith)
sign_alone (b ∷ bs) alone both some is other =
    ap (λ s. going_on s (λ q. tokens_from q bs)) is ∙ after-nil (tokens_from (sign (Some alone) both) bs) ∙ without_equals (Some alone) both bs (λ more. other)

-- a number of which nineteen digits were looked at
pub short_number : (text : List ℕ) (n : ℕ) → n ≡ run_of is_digit (take 19 text) → n ≤ 18 → n ≡ run_of is_digit text
short_number text n is short = omega (arith, is, run_take is_digit 19 text)

pub cut_number : (text : List ℕ) (n : ℕ) → 0 < length text → is_letter (get_or text 0 0) ≡ false → is_digit (get_or text 0 0) ≡ true → n ≡ run_of is_digit (take 19 text) → 18 < n → tokens_of text ≡ Err Number
cut_number text n some not_letter digit is long =
    many_digits text (run_of is_digit text) some not_letter digit refl (run_within is_digit text) (omega (arith, is, run_take is_digit 19 text))
