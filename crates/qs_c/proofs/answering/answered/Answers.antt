use Rattle.std.proofs.Common.{[], inl, inr, refl}
use Rattle.qs_report.specs.declared.faults.Fault.TheVariants as fault
use Rattle.qs_line.specs.declared.line.Format.TheVariants as format
use Rattle.qs_serve.specs.declared.due.Due.TheVariants.{Refused}
use Rattle.qs_c.proofs.answering.answered.Goals as goal

-- where no memory is left for the text, that is said
pub returns-in-Err : goal.returns-in-Err
returns-in-Err c = record {
  answer = (Refused fault.Memory, format.Text, [], inr (refl, inl refl), c.put_text-in-Err.ensures.cut, c.put_text-in-Err.ensures.length, c.status-in-Err.ensures.status);
}
