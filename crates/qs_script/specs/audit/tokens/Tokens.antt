-- The tokens of a text, or its first fault. The text is gone through byte by byte; each byte ends what has begun, goes
-- on with it, or begins something.
use Rattle.std.specs.Prelude.{ℕ, ◌+◌, ◌*◌, ◌-◌, Bool, ◌||◌, ◌&&◌, nat_lt, nat_le, nat_eq, if◌then◌else◌, List, [], ◌∷◌, ◌++◌, length, fold, Option, Some, None, Result, Ok, Err, codes}
use Rattle.std.specs.Cmp.Lexicographic.{pointwise}
use Rattle.qs_script.specs.declared.tokens.token.Token.{Token}
use Rattle.qs_script.specs.declared.tokens.token.Token.TheVariants as t
use Rattle.qs_script.specs.declared.tokens.lex.TokenFault.{TokenFault}
use Rattle.qs_script.specs.declared.tokens.lex.TokenFault.TheVariants.{Byte, Number, Name}
use Rattle.qs_script.specs.audit.tokens.Limits.{longest_name, most_digits}

abbrev pub between : ℕ → ℕ → ℕ → Bool
between low b high = nat_le low b && nat_le b high

-- a to z
abbrev pub is_letter : ℕ → Bool
is_letter b = between 97 b 122

-- 0 to 9
abbrev pub is_digit : ℕ → Bool
is_digit b = between 48 b 57

-- a byte that may follow in a name: a letter, a digit or _
abbrev pub is_name_byte : ℕ → Bool
is_name_byte b = is_letter b || is_digit b || nat_eq b 95

-- space, tab, CR, LF
abbrev pub is_space : ℕ → Bool
is_space b = nat_eq b 32 || nat_eq b 9 || nat_eq b 13 || nat_eq b 10

-- the number that digits write
abbrev pub value_of : List ℕ → ℕ
value_of digits = fold (λ n b. n * 10 + (b - 48)) 0 digits

-- the reserved words
abbrev pub reserved_words : List (List ℕ × Token)
reserved_words =
    (codes "object", t.Object) ∷ (codes "client", t.Client) ∷ (codes "separate", t.Separate) ∷ (codes "if", t.If)
    ∷ (codes "else", t.Else) ∷ (codes "repeat", t.Repeat) ∷ (codes "leave", t.Leave) ∷ (codes "account", t.Account)
    ∷ (codes "buffer", t.Buffer) ∷ (codes "grid", t.Grid) ∷ (codes "template", t.Template) ∷ []

abbrev pub same : List ℕ → List ℕ → Bool
same = pointwise nat_eq

-- the word's token in the table, or a name
abbrev pub word_in : List (List ℕ × Token) → List ℕ → Token
word_in [] w = t.Name w
word_in (p ∷ ps) w = if same w p.0 then p.1 else word_in ps w

-- a reserved word, or a name
abbrev pub word_token : List ℕ → Token
word_token w = word_in reserved_words w

-- what has begun and isn't over
pub data Pending : Type 0 where
  nothing : Pending
  word : List ℕ → Pending
  digits : List ℕ → Pending
  comment : Pending
  -- a sign that an = may follow: the sign alone, if it is one, and the sign with the =
  sign : Option Token → Token → Pending

-- the token that is over, where its end is reached
abbrev pub over : Pending → Result (List Token) TokenFault
over nothing = Ok []
over comment = Ok []
over (word w) = if nat_lt longest_name (length w) then Err Name else Ok (word_token w ∷ [])
over (digits ds) = if nat_lt most_digits (length ds) then Err Number else Ok (t.Number (value_of ds) ∷ [])
over (sign None with_equals) = Err Byte
over (sign (Some alone) with_equals) = Ok (alone ∷ [])

-- the signs of one byte that no = may follow
abbrev pub signs : List (ℕ × Token)
signs =
    (123, t.OpenBrace) ∷ (125, t.CloseBrace) ∷ (40, t.OpenParen) ∷ (41, t.CloseParen) ∷ (44, t.Comma)
    ∷ (46, t.Dot) ∷ (59, t.Semicolon) ∷ (43, t.Plus) ∷ (45, t.Minus) ∷ (42, t.Times) ∷ []

-- the signs that an = may follow: the sign alone, if it is one, and the sign with the =
abbrev pub equals_signs : List (ℕ × (Option Token × Token))
equals_signs =
    (61, (Some t.Assign, t.Equal)) ∷ (60, (Some t.Less, t.AtMost)) ∷ (62, (Some t.Greater, t.AtLeast))
    ∷ (33, (None, t.Unequal)) ∷ []

-- what stands beside the byte in a table
abbrev pub at : {A : Type 0} → ℕ → List (ℕ × A) → Option A
at b [] = None
at b (p ∷ ps) = if nat_eq b p.0 then Some p.1 else at b ps

-- the tokens that are over, and what has begun; or a fault
abbrev pub Step : Type 0
Step = Result (List Token × Pending) TokenFault

abbrev pub single_sign : Option Token → Step
single_sign None = Err Byte
single_sign (Some s) = Ok (s ∷ [], nothing)

abbrev pub any_sign : ℕ → Option (Option Token × Token) → Step
any_sign b None = single_sign (at b signs)
any_sign b (Some p) = Ok ([], sign p.0 p.1)

-- a byte where nothing has begun
abbrev pub first_byte : ℕ → Step
first_byte b =
    if is_letter b then Ok ([], word (b ∷ [])) else
    (if is_digit b then Ok ([], digits (b ∷ [])) else
    (if is_space b then Ok ([], nothing) else
    (if nat_eq b 35 then Ok ([], comment) else any_sign b (at b equals_signs))))

abbrev pub before : List Token → Step → Step
before ts (Ok p) = Ok (ts ++ p.0, p.1)
before ts (Err e) = Err e

-- what has begun is over, and the byte begins something
abbrev pub ends : Result (List Token) TokenFault → ℕ → Step
ends (Ok ts) b = before ts (first_byte b)
ends (Err e) b = Err e

-- one byte
abbrev pub byte_step : Pending → ℕ → Step
byte_step nothing b = first_byte b
byte_step (word w) b = if is_name_byte b then Ok ([], word (w ++ b ∷ [])) else ends (over (word w)) b
byte_step (digits ds) b = if is_digit b then Ok ([], digits (ds ++ b ∷ [])) else ends (over (digits ds)) b
byte_step comment b = if nat_eq b 10 then Ok ([], nothing) else Ok ([], comment)
byte_step (sign alone with_equals) b =
    if nat_eq b 61 then Ok (with_equals ∷ [], nothing) else ends (over (sign alone with_equals)) b

abbrev pub after : List Token → Result (List Token) TokenFault → Result (List Token) TokenFault
after ts (Ok us) = Ok (ts ++ us)
after ts (Err e) = Err e

-- the tokens that are over and those of the rest, or the first fault
abbrev pub going_on : Step → (Pending → Result (List Token) TokenFault) → Result (List Token) TokenFault
going_on (Ok p) next = after p.0 (next p.1)
going_on (Err e) next = Err e

-- the tokens of what has begun and the bytes after it
abbrev pub tokens_from : Pending → List ℕ → Result (List Token) TokenFault
tokens_from p [] = over p
tokens_from p (b ∷ bs) = going_on (byte_step p b) (λ q. tokens_from q bs)

-- the tokens of a text
abbrev pub tokens_of : List ℕ → Result (List Token) TokenFault
tokens_of = tokens_from nothing
