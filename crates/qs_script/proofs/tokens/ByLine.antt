-- A line feed ends what has begun, so the tokens of a text are those of its lines. The line of a fault stands on it. It
-- goes by induction on the bytes before the line feed.
use Rattle.std.proofs.Common.{◌≡◌, ℕ, List, [], ◌∷◌, ◌++◌, refl, ap, ◌∙◌, append-nil, Result, Ok, Err}
use Rattle.qs_script.specs.Types.{Token, TokenFault}
use Rattle.qs_script.specs.audit.tokens.Tokens.{Pending, nothing, word, digits, sign, Step, over, byte_step, ends, going_on, after, tokens_from, tokens_of}
use Rattle.qs_script.proofs.tokens.Lexemes.{then_tokens, after-after}

line_feed : (r : Result (List Token) TokenFault) (ys : List ℕ) → going_on (ends r 10) (λ q. tokens_from q ys) ≡ then_tokens r ys
line_feed (Ok ts) ys = rw append-nil refl
line_feed (Err e) ys = refl

over_at_feed : (p : Pending) (ys : List ℕ) → tokens_from p (10 ∷ ys) ≡ then_tokens (over p) ys
over_at_feed (word w) ys = line_feed (over (word w)) ys
over_at_feed (digits ds) ys = line_feed (over (digits ds)) ys
over_at_feed (sign alone both) ys = line_feed (over (sign alone both)) ys
over_at_feed _ ys = refl

after_then : (ts : List Token) (r : Result (List Token) TokenFault) (ys : List ℕ) → after ts (then_tokens r ys) ≡ then_tokens (after ts r) ys
after_then ts (Ok us) ys = after-after ts us (tokens_of ys)
after_then ts (Err e) ys = refl

stepped : (s : Step) (xs ys : List ℕ) → ((q : Pending) → tokens_from q (xs ++ 10 ∷ ys) ≡ then_tokens (tokens_from q xs) ys)
    → going_on s (λ q. tokens_from q (xs ++ 10 ∷ ys)) ≡ then_tokens (going_on s (λ q. tokens_from q xs)) ys
stepped (Ok p) xs ys h = ap (after p.0) (h p.1) ∙ after_then p.0 (tokens_from p.1 xs) ys
stepped (Err e) xs ys h = refl

from_line : (p : Pending) (xs ys : List ℕ) → tokens_from p (xs ++ 10 ∷ ys) ≡ then_tokens (tokens_from p xs) ys
from_line p [] ys = over_at_feed p ys
from_line p (b ∷ xs) ys = stepped (byte_step p b) xs ys (λ q. from_line q xs ys)

pub by_line : (xs ys : List ℕ) → tokens_of (xs ++ 10 ∷ ys) ≡ then_tokens (tokens_of xs) ys
by_line xs ys = from_line nothing xs ys
