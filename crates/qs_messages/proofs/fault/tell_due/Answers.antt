use Rattle.std.proofs.Common.{inr, subst, sym}
use Rattle.qs_messages.specs.Told.{IsDueOf}
use Rattle.qs_messages.proofs.fault.tell_due.Goals as goal

-- a front of what is due was written
pub returns-in-Ok : goal.returns-in-Ok
returns-in-Ok g c = record {
  told = inr (c.as_slice.result.now, subst (IsDueOf c.args.text.now c.args.fault.now) (sym c.as_slice.ensures.value) c.in-Ok.ensures.due, c.write_text.ensures.front);
}
