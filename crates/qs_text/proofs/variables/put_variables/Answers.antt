use Rattle.std.proofs.Common.{◌≡◌, ◌++◌, ap, ◌∙◌, length, get_or, pos, arith}
use Rattle.qs_text.proofs.Joined.{each_place_more, one_place_more}
use Rattle.qs_text.specs.TellApart.{IsWord}
use Rattle.qs_text.specs.audit.Texts.{texts_up_to}
use Rattle.qs_text.specs.Variables.{variable_text}
use Rattle.qs_text.proofs.variables.put_variables.Goals as goal

pub loop-number-preserved : goal.loop-number-preserved
loop-number-preserved c = (
  one_place_more (variable_text c.args.variables.now c.args.locals.now) c.loop-number.number _ _ _ c.loop-number.invariant.0 c.in_ok-put_variable.ensures.ok,
  each_place_more (λ x. IsWord (get_or c.args.locals.now x (pos 0))) c.loop-number.number c.loop-number.invariant.1 c.in_ok-put_variable.ensures.word,
)

pub returns : goal.returns
returns c =
    let all : c.loop-number.number ≡ length c.args.variables.now = omega arith in
    record {
      ok = c.loop-number.invariant.0 ∙ ap (λ n. c.args.out.now.items ++ texts_up_to n (variable_text c.args.variables.now c.args.locals.now)) all;
      words = λ x less. c.loop-number.invariant.1 x (omega (arith, all, less));
    }
