use Rattle.std.proofs.Common.{◌≡◌, ◌≤◌, ◌∙◌, ℕ, List, take, ap, arith, take-take}
use Rattle.qs_script.specs.audit.tokens.Tokens.{value_of}
use Rattle.qs_script.proofs.tokens.Lexemes.{cut_number, short_number}
use Rattle.qs_script.proofs.tokens.Lists.{adds_number}
use Rattle.qs_script.proofs.tokens.Powers.{ten_mono}
use Rattle.qs_script.proofs.tokens.listing.add_number.Goals as goal

-- the digits stand within the bytes that are looked at
taken : (text : List ℕ) (end : ℕ) → end ≤ 19 → value_of (take end (take 19 text)) ≡ value_of (take end text)
taken text end within = ap value_of (take-take end 19 text within)

pub returns-then-end-gt-MOST_DIGITS-clause-exact : goal.returns-then-end-gt-MOST_DIGITS-clause-exact
returns-then-end-gt-MOST_DIGITS-clause-exact c =
    cut_number c.args.text.now c.leading_number-value.result.1 (omega arith) c.requires.not_letter c.requires.digit c.leading_number-value.ensures.end (omega arith)

pub new-requires : goal.new-requires
new-requires c = record {
  small = omega (arith, c.leading_number-value.ensures.small, ten_mono c.leading_number-value.result.1 18 (omega arith));
}

pub returns-clause-exact : goal.returns-clause-exact
returns-clause-exact c =
    adds_number _ _ _ c.args.text.now c.leading_number-value.result.1 _ c.put.result c.put.ensures.same c.put.ensures.added c.with_space.ensures.same (omega arith) c.requires.not_letter c.requires.digit
    (short_number c.args.text.now c.leading_number-value.result.1 c.leading_number-value.ensures.end (omega arith)) (omega arith) (omega arith)
    (c.new.ensures.same ∙ c.leading_number-value.ensures.value ∙ taken c.args.text.now c.leading_number-value.result.1 (omega arith))
