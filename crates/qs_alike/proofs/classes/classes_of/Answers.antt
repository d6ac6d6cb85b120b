use Rattle.std.proofs.Common.{arith}
use Rattle.qs_alike.proofs.SameTexts.{one_first}
use Rattle.qs_alike.proofs.classes.classes_of.Goals as goal

pub returns-clause-all : goal.returns-clause-all
returns-clause-all c = λ a b here there same.
    let past = c.loop-client-test.false in
    let end = c.clients-client-end.ensures.value in
    let upto = c.loop-client.invariant.upto in
    one_first _ a b _ _ same ((upto a).0 (omega (arith, past, end, here))) ((upto b).0 (omega (arith, past, end, there)))
