use Rattle.qs_svg.proofs.Common.{◌≡◌, arith, length, variable_words, one_text_more}
use Rattle.qs_svg.proofs.words.put_variables.Goals as goal

pub loop-number-preserved : goal.loop-number-preserved
loop-number-preserved c =
    one_text_more (variable_words c.args.variables.now c.args.locals.now) c.loop-number.number c.loop-number.invariant c.in_ok-put_variable.ensures.ok

pub returns : goal.returns
returns c = let all : c.loop-number.number ≡ length c.args.variables.now = omega arith in record { ok = rw all at c.loop-number.invariant }
