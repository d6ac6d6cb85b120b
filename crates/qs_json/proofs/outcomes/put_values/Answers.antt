use Rattle.std.proofs.Common.{◌≡◌, arith, get_or, length, pos}
use Rattle.qs_text.proofs.Joined.{each_place_more}
use Rattle.qs_text.specs.TellApart.{IsWord}
use Rattle.qs_json.specs.audit.Variables.{variable_json}
use Rattle.qs_json.proofs.Elements.{one_element_more}
use Rattle.qs_json.proofs.outcomes.put_values.Goals as goal

pub loop-number-preserved : goal.loop-number-preserved
loop-number-preserved c = (
  one_element_more (variable_json c.args.variables.now c.args.locals.now) c.loop-number.number c.loop-number.invariant.0 c.in_ok-put_comma.ensures.ok
      c.in_ok-put_variable.ensures.ok,
  each_place_more (λ x. IsWord (get_or c.args.locals.now x (pos 0))) c.loop-number.number c.loop-number.invariant.1 c.in_ok-put_variable.ensures.word,
)

pub returns : goal.returns
returns c =
    let all : c.loop-number.number ≡ length c.args.variables.now = omega arith in
    rw (← all) (record { ok = c.loop-number.invariant.0; words = c.loop-number.invariant.1 })
