-- The tokens of a text are those of its lines, one line after another: whatever has begun ends at a LF, and what comes
-- after the LF begins anew. So the anchors of the lines are those of the text's script. By induction on the bytes.
use Rattle.qs_dot.proofs.Common.{◌≡◌, ℕ, ◌+◌, Bool, true, false, if◌then◌else◌, nat_eq, List, [], ◌∷◌, ◌++◌, map, Result, Ok, Err, refl, ap, ap₂, sym, ◌∙◌, append_assoc, append-nil, arith, nat_tests}
use Rattle.qs_dot.proofs.Common.{map-append, Token, TokenFault, Pending, nothing, word, digits, comment, sign, over, Step, byte_step, ends, going_on, after, tokens_from, tokens_of, anchors_in}
use Rattle.qs_dot.proofs.Common.{anchors_from, its_token, numbered, tokens_or_none, AnchorsHaveLines}
use Rattle.qs_check.proofs.anchors.Tokens.{anchors_are_tokens}
use Rattle.qs_dot.proofs.node_lines.TextLines.{anchors_joined}

-- some tokens and then others, or the first fault
abbrev both : Result (List Token) TokenFault → Result (List Token) TokenFault → Result (List Token) TokenFault
both (Ok ts) r = after ts r
both (Err e) r = Err e

ends_lf : (r : Result (List Token) TokenFault) (ys : List ℕ) → going_on (ends r 10) (λ q. tokens_from q ys) ≡ both r (tokens_of ys)
ends_lf (Ok ts) ys = ap (λ us. after us (tokens_of ys)) (append-nil ts)
ends_lf (Err e) ys = refl

lf_ends : (p : Pending) (ys : List ℕ) → tokens_from p (10 ∷ ys) ≡ both (over p) (tokens_of ys)
lf_ends nothing ys = refl
lf_ends (word w) ys = ends_lf (over (word w)) ys
lf_ends (digits ds) ys = ends_lf (over (digits ds)) ys
lf_ends comment ys = refl
lf_ends (sign alone with_equals) ys = ends_lf (over (sign alone with_equals)) ys

after_after : (us ts : List Token) (r : Result (List Token) TokenFault) → after us (after ts r) ≡ after (us ++ ts) r
after_after us ts (Ok vs) = ap (λ l. Ok l) (sym (append_assoc us ts vs))
after_after us ts (Err e) = refl

after_both : (us : List Token) (r s : Result (List Token) TokenFault) → after us (both r s) ≡ both (after us r) s
after_both us (Ok ts) s = after_after us ts s
after_both us (Err e) s = refl

through : (s : Step) (xs ys : List ℕ) → ((q : Pending) → tokens_from q (xs ++ 10 ∷ ys) ≡ both (tokens_from q xs) (tokens_of ys))
    → going_on s (λ q. tokens_from q (xs ++ 10 ∷ ys)) ≡ both (going_on s (λ q. tokens_from q xs)) (tokens_of ys)
through (Ok p) xs ys h = ap (λ r. after p.0 r) (h p.1) ∙ after_both p.0 (tokens_from p.1 xs) (tokens_of ys)
through (Err e) xs ys h = refl

cut_at_lf : (p : Pending) (xs ys : List ℕ) → tokens_from p (xs ++ 10 ∷ ys) ≡ both (tokens_from p xs) (tokens_of ys)
cut_at_lf p [] ys = lf_ends p ys
cut_at_lf p (b ∷ xs) ys = through (byte_step p b) xs ys (λ q. cut_at_lf q xs ys)

-- what both are, where they have no fault
record AreBoth (r s : Result (List Token) TokenFault) (ts : List Token) : Type 0 where
  first : List Token
  second : List Token
  is_first : r ≡ Ok first
  is_second : s ≡ Ok second
  joined : first ++ second ≡ ts

both_fine : (r s : Result (List Token) TokenFault) (ts : List Token) → both r s ≡ Ok ts → AreBoth r s ts
both_fine (Ok us) (Ok vs) ts h = record { first = us; second = vs; is_first = refl; is_second = refl; joined = cc }
both_fine (Ok us) (Err e) ts h = cc
both_fine (Err e) s ts h = cc

its_tokens : (n : ℕ) (ts : List Token) → map its_token (map (λ t. (t, n)) ts) ≡ ts
its_tokens n [] = refl
its_tokens n (t ∷ ts) = ap (λ l. t ∷ l) (its_tokens n ts)

-- the anchors of a line
of_line : (n : ℕ) (line : List ℕ) (ts : List Token) → tokens_of line ≡ Ok ts → map its_token (numbered n line) ≡ anchors_in ts
of_line n line ts h = its_tokens n (anchors_in (tokens_or_none (tokens_of line))) ∙ ap (λ r. anchors_in (tokens_or_none r)) h

is_lf : (b : ℕ) → nat_eq b 10 ≡ true → b ≡ 10
is_lf b h = grind (arith, nat_tests)

abbrev FromLines : List ℕ → Type 0
FromLines text = (n : ℕ) (begun : List ℕ) (ts : List Token) → tokens_of (begun ++ text) ≡ Ok ts → map its_token (anchors_from n begun text) ≡ anchors_in ts

byte_more : (b : ℕ) (bs : List ℕ) (is : Bool) → nat_eq b 10 ≡ is → FromLines bs → FromLines (b ∷ bs)
byte_more b bs true e more n begun ts h =
    let left : tokens_of (begun ++ 10 ∷ bs) ≡ Ok ts = ap (λ k. tokens_of (begun ++ k ∷ bs)) (sym (is_lf b e)) ∙ h in
    let parts = both_fine (tokens_of begun) (tokens_of bs) ts (sym (cut_at_lf nothing begun bs) ∙ left) in
    ap (λ (c : Bool). map its_token (if c then numbered n begun ++ anchors_from (n + 1) [] bs else anchors_from n (begun ++ b ∷ []) bs)) e
    ∙ map-append its_token (numbered n begun) (anchors_from (n + 1) [] bs)
    ∙ ap₂ (λ (l r : List Token). l ++ r) (of_line n begun parts.first parts.is_first) (more (n + 1) [] parts.second parts.is_second)
    ∙ sym (anchors_joined parts.first parts.second) ∙ ap anchors_in parts.joined
byte_more b bs false e more n begun ts h =
    ap (λ (c : Bool). map its_token (if c then numbered n begun ++ anchors_from (n + 1) [] bs else anchors_from n (begun ++ b ∷ []) bs)) e
    ∙ more n (begun ++ b ∷ []) ts (ap tokens_of (append_assoc begun (b ∷ []) bs) ∙ h)

from_lines : (text : List ℕ) → FromLines text
from_lines [] n begun ts h = of_line n begun ts (ap tokens_of (sym (append-nil begun)) ∙ h)
from_lines (b ∷ bs) n begun ts h = byte_more b bs (nat_eq b 10) refl (from_lines bs) n begun ts h

pub anchors_have_lines : AnchorsHaveLines
anchors_have_lines text items is = from_lines text 1 [] is.tokens is.cut ∙ anchors_are_tokens items is.tokens is.tree
