-- The claims of a script: lines of its text that begin with `#?`, behind which stand a quantifier's word and a condition.
-- To the language of scripts such a line is a comment.
use Rattle.std.specs.Prelude.{ℕ, ◌+◌, ◌==◌, Bool, true, false, not, ◌||◌, ◌&&◌, if◌then◌else◌, List, [], ◌∷◌, ◌++◌, codes, drop, take, Option, Some, None, option_map, option_and_then, unwrap_or}
use Rattle.std.specs.Option.{option_map_or}
use Rattle.std.specs.List.{position_or_len, slice_split}
use Rattle.std.specs.Str.{bytes_eq}
use Rattle.qs_conditions.specs.Reads.{condition_in}
use Rattle.qs_line.specs.declared.question.Question.{Question}
use Rattle.qs_line.specs.declared.question.Question.TheVariants as question
use Rattle.qs_conditions.specs.declared.claim.Quantifier.{Quantifier}
use Rattle.qs_conditions.specs.declared.claim.Quantifier.TheVariants as q

-- a space or a tab
abbrev pub is_blank : ℕ → Bool
is_blank byte = byte == 32 || byte == 9

-- a blank, or else what is none
abbrev pub is_kind : (blank : Bool) → ℕ → Bool
is_kind blank byte = if blank then is_blank byte else not (is_blank byte)

-- a text without the blanks at its beginning
abbrev pub from_word : List ℕ → List ℕ
from_word text = drop (position_or_len (is_kind false) text) text

-- the word at the beginning of a text
abbrev pub first_word : List ℕ → List ℕ
first_word text = take (position_or_len (is_kind true) text) text

-- and what stands behind it
abbrev pub after_word : List ℕ → List ℕ
after_word text = drop (position_or_len (is_kind true) text) text

-- what stands behind the mark of a claim, `#?`, in a line that begins with it, but for blanks
abbrev pub behind_mark : List ℕ → Option (List ℕ)
behind_mark [] = None
behind_mark (a ∷ []) = None
behind_mark (a ∷ b ∷ rest) = if a == 35 && b == 63 then Some rest else None

-- the quantifier of a word
abbrev pub quantifier_in : List ℕ → Option Quantifier
quantifier_in text =
    if bytes_eq text (codes "always") then Some q.Always
    else if bytes_eq text (codes "some") then Some q.Some
    else if bytes_eq text (codes "throughout") then Some q.Throughout
    else if bytes_eq text (codes "ever") then Some q.Ever
    else if bytes_eq text (codes "never") then Some q.Never else None

-- the claim of a text on a line, where the text is a condition
abbrev pub claim_on : (line : ℕ) → Quantifier → List ℕ → Option Question
claim_on line quantifier text =
    option_map (λ steps. question.Claim (record { line = line; quantifier = quantifier; condition = steps })) (condition_in text)

-- the word and the rest of a line that has a mark
abbrev pub claim_parts : List ℕ → Option (List ℕ × List ℕ)
claim_parts text =
    option_map (λ said. (first_word (from_word said), after_word (from_word said))) (behind_mark (from_word text))

-- the claim that a word and the rest make, where they make one
abbrev pub claim_said : (line : ℕ) → (word rest : List ℕ) → Option Question
claim_said line word rest = option_and_then (λ quantifier. claim_on line quantifier rest) (quantifier_in word)

-- where a line has no mark, none; where it has one, the claim that is written behind it, if that can be read
abbrev pub claims_on : (line : ℕ) → List ℕ → Option (List Question)
claims_on line text =
    option_map_or (λ (parts : List ℕ × List ℕ). option_map (λ claim. claim ∷ []) (claim_said line parts.0 parts.1))
    (claim_parts text) (Some [])

-- some claims, and behind them those of lines, the first of which has this number; none where one can't be read
abbrev pub claims_from : (line : ℕ) → (before : List Question) → List (List ℕ) → Option (List Question)
claims_from line before [] = Some before
claims_from line before (text ∷ texts) =
    option_and_then (λ own. claims_from (line + 1) (before ++ own) texts) (claims_on line text)

-- the claims of a script's text, in the order of its lines, which are numbered from 1; none where one can't be read
abbrev pub claims_in : List ℕ → Option (List Question)
claims_in text = claims_from 1 [] (slice_split (λ byte. byte == 10) text)
