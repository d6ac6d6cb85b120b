use Rattle.std.proofs.Common.{subst}
use Rattle.qs_messages.specs.CheckTold.{IsCheckTold}
use Rattle.qs_messages.proofs.fault.told_check.Goals as goal

pub returns : goal.returns
returns c = record {
  due = subst (λ old. IsCheckTold c.args.text.now old c.tell_check.new.out.items) c.new-out.ensures.items c.in_ok-tell_check.ensures.told;
}
