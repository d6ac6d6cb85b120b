use Rattle.std.proofs.Common.{sym, arith, rules}
use Rattle.std.proofs.lemmas.List.Sums.{position_or_len_is}
use Rattle.qs_line.specs.ScriptClaims.{is_kind}
use Rattle.qs_line.proofs.script_claims.place_of.Goals as goal

pub returns-then-is_kind-clause-place : goal.returns-then-is_kind-clause-place
returns-then-is_kind-clause-place c =
    sym (position_or_len_is (is_kind c.args.blank) c.args.text.now c.loop-place.place 0 c.loop-place.invariant.0 c.loop-place.invariant.1 (λ _. search rules))

pub returns-clause-place : goal.returns-clause-place
returns-clause-place c =
    sym (position_or_len_is (is_kind c.args.blank) c.args.text.now c.loop-place.place 0 c.loop-place.invariant.0 c.loop-place.invariant.1 (λ h. absurd (omega (arith, c.loop-place-test.false))))
