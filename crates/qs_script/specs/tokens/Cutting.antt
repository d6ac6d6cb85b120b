-- What the tokenizer cuts off at the front of a text.
use Rattle.std.specs.Borrow.{Bor}
use Rattle.std.specs.Prelude.{◌≡◌, ℕ, ◌+◌, Bool, not, nat_eq, if◌then◌else◌, List, [], ◌∷◌, drop, Option, Some, None, Result, Ok, Err}
use Rattle.qs_script.specs.declared.tokens.token.Token.{Token}
use Rattle.qs_script.specs.declared.tokens.token.Token.TheVariants as t
use Rattle.qs_script.specs.declared.tokens.lex.TokenFault.{TokenFault}
use Rattle.qs_script.specs.declared.tokens.lex.Run.{Run}
use Rattle.qs_script.specs.declared.tokens.lex.Run.TheVariants as r
use Rattle.qs_script.specs.declared.tokens.lex.Piece.{Piece}
use Rattle.qs_script.specs.declared.tokens.lex.Piece.TheVariants as p
use Rattle.qs_script.specs.declared.tokens.listing.TokensFault.{TokensFault}
use Rattle.qs_script.specs.declared.tokens.listing.TokensFault.TheVariants as l
use Rattle.qs_script.specs.audit.tokens.Tokens.{is_name_byte, is_digit, tokens_of, after, at, signs, same, word_token}

-- whether a byte goes on with the run
abbrev pub in_run : Run → ℕ → Bool
in_run r.Name b = is_name_byte b
in_run r.Digits b = is_digit b
in_run r.Comment b = not (nat_eq b 10)

-- how many bytes at the front pass the test
abbrev pub run_of : (ℕ → Bool) → List ℕ → ℕ
run_of test [] = 0
run_of test (b ∷ bs) = if test b then 1 + run_of test bs else 0

abbrev pub tokens_in : Piece → List Token
tokens_in (p.Token t) = t ∷ []
tokens_in _ = []

-- what all the tokens are: those of the piece and those of the bytes after it, or the first fault
abbrev pub Cuts : Result (Piece × Bor (List ℕ)) TokenFault → Result (List Token) TokenFault → Type 0
Cuts (Ok x) all = all ≡ after (tokens_in x.0) (tokens_of x.1.now)
Cuts (Err e) all = all ≡ Err e

-- what goes on after the tokens of a list, where so many bytes are passed over: those that were added come first, then
-- those of the bytes after these; or the first fault
abbrev pub Adds : List Token → List Token → Result ℕ TokenFault → List ℕ → Type 0
Adds old new (Ok n) text = after old (tokens_of text) ≡ after new (tokens_of (drop n text))
Adds old new (Err e) text = tokens_of text ≡ Err e

-- the same, with the bytes that are left
abbrev pub AddsMost : List Token → List Token → Result (Bor (List ℕ)) TokenFault → List ℕ → Type 0
AddsMost old new (Ok rest) text = after old (tokens_of text) ≡ after new (tokens_of rest.now)
AddsMost old new (Err e) text = tokens_of text ≡ Err e

-- the same, where all the bytes are passed over
abbrev pub AddsAll : List Token → List Token → Result (Unit {0}) TokenFault → List ℕ → Type 0
AddsAll old new (Ok u) text = after old (tokens_of text) ≡ Ok new
AddsAll old new (Err e) text = tokens_of text ≡ Err e

-- the first fault of a text, unless memory ran out
abbrev pub IsFirstFault : Result (List Token) TokenFault → TokensFault → Type 0
IsFirstFault all (l.Token e) = all ≡ Err e
IsFirstFault all l.Memory = Unit {0}

-- a reserved word, or a name
abbrev pub or_name : List ℕ → Option Token → Token
or_name word None = t.Name word
or_name word (Some token) = token

-- the word is the only reserved one with this first byte
abbrev pub IsOnlyWith : ℕ → List ℕ → Token → Type 0
IsOnlyWith first word token =
    (bs : List ℕ) → word_token (first ∷ bs) ≡ (if same (first ∷ bs) word then token else t.Name (first ∷ bs))

-- no reserved word has this first byte
abbrev pub BeginsNone : ℕ → Type 0
BeginsNone first = (bs : List ℕ) → word_token (first ∷ bs) ≡ t.Name (first ∷ bs)

-- a sign with = after it, and the sign of a byte alone, if these are signs
abbrev pub with_equals : Option (Option Token × Token) → Option Token
with_equals None = None
with_equals (Some p) = Some p.1

abbrev pub alone : ℕ → Option (Option Token × Token) → Option Token
alone b None = at b signs
alone b (Some p) = p.0
