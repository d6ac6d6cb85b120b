-- When the text of a setting is parsed, the number is the one that the settings name, in the range of a chunk's size,
-- of a number of rounds, or from 1 to the most that a setting takes, and a text that is refused names none. The proofs
-- of `chunk_of`, `rounds_of` and `number_of` stand on it. It goes by cases on the result of parsing, whose range is
-- compared with that of the setting.
use Rattle.std.proofs.Common.{◌≡◌, ◌≤◌, ◌^◌, ◌<◌, ℕ, Bool, List, true, false, Option, Some, None, Result, Ok, Err, refl, sym, ap, ◌∙◌, arith, ◌↔◌, IfSome}
use Rattle.std.specs.Prelude.{if◌then◌else◌, IsSome, unwrap_or}
use Rattle.std.specs.Result.{result_ok}
use Rattle.std.specs.Str.Parse.{ParsesUnsigned, IsNumeral, digits_value, without_leading_plus}
use Rattle.clap.specs.ValueTests.{is_unsigned_in}
use Rattle.clap.specs.declared.builder.ValueParser.TheVariants as parser
use Rattle.clap.proofs.ValueTestLemmas.{accepts-Accepts, Accepts-accepts}
use Rattle.qs_line.specs.audit.Line.{number_in}

-- a numeral in the range is its number
pub number_in-some : (low high : ℕ) (text : List ℕ) → IsNumeral 10 (without_leading_plus text)
    → digits_value 10 (without_leading_plus text) < 2 ^ 64
    → low ≤ digits_value 10 (without_leading_plus text) → digits_value 10 (without_leading_plus text) ≤ high
    → number_in low high text ≡ Some (digits_value 10 (without_leading_plus text))
number_in-some low high text numeral fits at_least at_most =
    rw (Accepts-accepts false (parser.Unsigned low high) text (numeral, fits, at_least, at_most)) refl

abbrev number_by : (b : Bool) (text : List ℕ) → Option ℕ
number_by b text = if b then Some (digits_value 10 (without_leading_plus text)) else None

none_by : (b : Bool) (text : List ℕ) → (b ≡ true → ⊥) → number_by b text ≡ None
none_by true text never = absurd (never refl)
none_by false text never = refl

-- a text that is no numeral in the range is no number
pub number_in-none : (low high : ℕ) (text : List ℕ)
    → (IsNumeral 10 (without_leading_plus text) → low ≤ digits_value 10 (without_leading_plus text)
    → digits_value 10 (without_leading_plus text) ≤ high → ⊥)
    → number_in low high text ≡ None
number_in-none low high text never = none_by (is_unsigned_in low high text) text
    (λ e. let a = accepts-Accepts false (parser.Unsigned low high) text e in never a.0 a.2 a.3)

pub parsed_rounds : {E : Type 0} (text : List ℕ) (r : Result ℕ E) → ParsesUnsigned 32 10 text r → result_ok r ≡ number_in 0 4294967295 text
parsed_rounds text (Ok n) h =
    rw h.1 (sym (number_in-some 0 4294967295 text h.0.0 (omega (arith, h.0.1)) (omega arith) (omega (arith, h.0.1))))
parsed_rounds text (Err e) h = sym (number_in-none 0 4294967295 text (λ numeral at_least at_most. h (numeral, omega (arith, at_most))))

-- of so many bits and in a range within these: a text that does not parse is no number of the range, one that parses is
-- its number where that is in the range, and else none
pub unparsed_within : {E : Type 0} (bits low high : ℕ) (text : List ℕ) (r : Result ℕ E) → high < 2 ^ bits → ParsesUnsigned bits 10 text r
    → result_ok r ≡ None → number_in low high text ≡ None
unparsed_within bits low high text (Ok n) fits h e = absurd (cc e)
unparsed_within bits low high text (Err error) fits h e =
    number_in-none low high text (λ numeral at_least at_most. h (numeral, omega (arith, at_most, fits)))

pub parsed_within : {E : Type 0} (low high n : ℕ) (text : List ℕ) (r : Result ℕ E) → ParsesUnsigned 32 10 text r → result_ok r ≡ Some n
    → low ≤ n → n ≤ high → Some n ≡ number_in low high text
parsed_within low high n text (Ok m) h e at_least at_most =
    let same : m ≡ n = ap (λ o. unwrap_or o 0) e in
    let is : n ≡ digits_value 10 (without_leading_plus text) = sym same ∙ h.1 in
    ap Some is ∙ sym (number_in-some low high text h.0.0 (omega (arith, h.0.1)) (omega (arith, is, at_least)) (omega (arith, is, at_most)))
parsed_within low high n text (Err error) h e at_least at_most = absurd (cc e)

-- a number is a size where it is from 1 to 32
chunk_by : (n : ℕ) (made : Option ℕ) (text : List ℕ) → IsNumeral 10 (without_leading_plus text) → n ≡ digits_value 10 (without_leading_plus text)
    → (IsSome made ↔ ((1 ≤ n) × (n ≤ 32))) → IfSome made (λ size. size ≡ n) → made ≡ number_in 1 32 text
chunk_by n (Some size) text numeral is within same =
    ap Some (same ∙ is) ∙ sym (number_in-some 1 32 text numeral (omega (arith, is, within.0 refl)) (omega (arith, is, within.0 refl)) (omega (arith, is, within.0 refl)))
chunk_by n None text numeral is within same =
    sym (number_in-none 1 32 text (λ _ at_least at_most. absurd (cc (within.1 (omega (arith, is, at_least), omega (arith, is, at_most))))))

pub parsed_chunk : {E : Type 0} (n : ℕ) (made : Option ℕ) (text : List ℕ) (r : Result ℕ E) → ParsesUnsigned 8 10 text r → result_ok r ≡ Some n
    → (IsSome made ↔ ((1 ≤ n) × (n ≤ 32))) → IfSome made (λ size. size ≡ n) → made ≡ number_in 1 32 text
parsed_chunk n made text (Ok m) h e = chunk_by n made text h.0.0 (sym (ap (λ o. unwrap_or o 0) e) ∙ h.1)
parsed_chunk n made text (Err error) h e = absurd (cc e)
