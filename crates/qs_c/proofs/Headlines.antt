-- What a call answers with the status 0 reports a run that is as if serial, where the words ask for a run: so it is of
-- what is due by a line and a script's text. The calls `qs_rules` and `qs_play` stand on it.
use Rattle.std.proofs.Common.{◌≡◌, ◌∙◌, ℕ, List, sym, inl, inr}
use Rattle.qs_report.specs.declared.faults.Fault.{Fault}
use Rattle.qs_report.specs.declared.faults.Fault.TheVariants as fault
use Rattle.qs_line.specs.Line.{line_in}
use Rattle.qs_line.proofs.Claims.{runs_are_lines}
use Rattle.qs_serve.specs.Due.{IsRefusedBy, due_status, due_text}
use Rattle.qs_serve.specs.declared.due.Due.{Due}
use Rattle.qs_serve.specs.declared.due.Due.TheVariants.{Text, No, Refused}
use Rattle.qs_serve.proofs.Dues.{zero_is_none}
use Rattle.qs_serve.proofs.Headlines.{headline_alone}
use Rattle.qs_c.specs.Answers.{IsAnswered, IsHeadlineOfCall, line_words}

-- what is refused has not the status 0
refused_is_not_zero : (f : Fault) (due : Due) → IsRefusedBy f due → 0 ≡ due_status due → ⊥
refused_is_not_zero f (Text bytes) is e = is
refused_is_not_zero f (No bytes) is e = is
refused_is_not_zero f (Refused g) is e = zero_is_none g (sym e)

pub headline_of_call : (word words script before after : List ℕ) (status answer : ℕ)
    → IsAnswered word words script before after status answer
    → IsHeadlineOfCall word words script before after status answer
headline_of_call word words script before after status answer (due, how, details, inl (utf8, (of, formatted)), cut, long, e) zero request style asked is = (
  due_text how details due,
  cut,
  long,
  headline_alone (line_in (line_words word words)) script due how details of (sym zero ∙ e) request style
      (runs_are_lines (line_words word words) request asked) is,
)
headline_of_call word words script before after status answer (due, how, details, inr (text, inl memory), cut, long, e) zero request style asked is =
    absurd (refused_is_not_zero fault.Memory due memory (sym zero ∙ e))
headline_of_call word words script before after status answer (due, how, details, inr (text, inr (utf8, line)), cut, long, e) zero request style asked is =
    absurd (refused_is_not_zero fault.CommandLine due line (sym zero ∙ e))
