use Rattle.std.proofs.Common.{◌≡◌, ◌<◌, ◌-◌, ◌∙◌, None, length, get_or, take, drop, sym, refl, arith}
use Rattle.std.proofs.lemmas.List.{take_rest}
use Rattle.qs_script.specs.audit.tokens.Tokens.{at, equals_signs}
use Rattle.qs_script.specs.tokens.Cutting.{with_equals}
use Rattle.qs_script.proofs.tokens.Lexemes.{front_one}
use Rattle.qs_script.proofs.tokens.lex.front_sign.Goals as goal
use Rattle.qs_script.proofs.tokens.lex.front_sign.Goals.{then-not-is_empty+then-rest-eq61+in_default, else-not-is_empty, else-not-is_empty-via-then-not-is_empty+else-rest-eq61, else-not-is_empty-via-else-not-is_empty}

pub returns-in-Some-sign_alone-clause-exact : goal.returns-in-Some-sign_alone-clause-exact
returns-in-Some-sign_alone-clause-exact c =
    let rest = take (length c.args.text.now - 1) (drop 1 c.args.text.now) in
    let unfollowed : 0 < length rest → get_or rest 0 0 ≡ 61 → with_equals (at (get_or c.args.text.now 0 0) equals_signs) ≡ None =
    elim c.if-not-is_empty.branch [
      | then-not-is_empty+then-rest-eq61+in_default w ↦ λ some e. sym w.sign_with_equals.ensures ∙ w.in_default.is
      | else-not-is_empty w ↦ elim w.else-not-is_empty.branch [
        | else-not-is_empty-via-then-not-is_empty+else-rest-eq61 w' ↦ λ some e. absurd (w'.if-rest-eq61.false e)
        | else-not-is_empty-via-else-not-is_empty w' ↦ λ some. grind arith
      ]
    ] in
    front_one c.args.text.now rest (get_or c.args.text.now 0 0) _ c.requires.some refl (take_rest c.args.text.now 1) c.requires.not_letter c.requires.not_digit c.requires.not_space c.requires.not_comment unfollowed c.in-Some-sign_alone.ensures
