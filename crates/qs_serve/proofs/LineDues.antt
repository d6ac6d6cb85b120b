-- What is due by the answer of reading a line is due by the line: its result or fault, its format, the text that is
-- kept, and that nothing is read where it asks for nothing. The function `due_of` stands on it. It goes by cases on the
-- answer.
use Rattle.std.proofs.Common.{◌≡◌, ℕ, List, ◌∙◌, Result, Ok, Err, sym, ap, subst, inl, inr}
use Rattle.std.specs.Prelude.{IfErr, IfOk}
use Rattle.qs_report.specs.declared.faults.Fault.TheVariants as fault
use Rattle.qs_line.specs.declared.line.Format.{Format}
use Rattle.qs_line.specs.declared.line.LineFault.{LineFault}
use Rattle.qs_line.specs.declared.line.LineFault.TheVariants as line_fault
use Rattle.qs_line.specs.declared.line.Settings.{Settings}
use Rattle.qs_line.specs.audit.Line.{Line, asks, help, refused, version}
use Rattle.qs_line.specs.Line.{IsAnswer, format_by, request_of}
use Rattle.qs_serve.specs.Due.{IsDueOfFault, IsDueOfLine, IsDueOfTextAlone, IsFormatOfLine, IsOutOfMemory, IsTextOfMemory, format_of_answer}
use Rattle.qs_serve.specs.declared.due.Due.{Due}
use Rattle.qs_serve.specs.declared.due.Due.TheVariants.{Text, No, Refused}

-- the same where there are no threads
pub due_by_line_alone : (line : Line) (r : Result Settings LineFault) (text : List ℕ) (due : Due) → IsAnswer line r
    → IfOk r (λ settings. IsDueOfTextAlone (request_of settings) text due) → IfErr r (λ f. IsDueOfFault f due) → IsDueOfLine line text due
due_by_line_alone line (Ok settings) text due is made fault = subst (λ l. IsDueOfLine l text due) (sym is) made
due_by_line_alone line (Err line_fault.Refused) text due is made fault = subst (λ l. IsDueOfLine l text due) (sym is) (inr fault)
due_by_line_alone line (Err (line_fault.Help help_text)) text due is made fault = subst (λ l. IsDueOfLine l text due) (sym is) (inr fault)
due_by_line_alone line (Err (line_fault.Version version_text)) text due is made fault = subst (λ l. IsDueOfLine l text due) (sym is) (inr fault)
due_by_line_alone refused (Err line_fault.Memory) text (Refused f) is made fault = inl fault
due_by_line_alone help (Err line_fault.Memory) text (Refused f) is made fault = inl fault
due_by_line_alone version (Err line_fault.Memory) text (Refused f) is made fault = inl fault
due_by_line_alone (asks request) (Err line_fault.Memory) text (Refused f) is made fault = inl (subst (λ g. IsOutOfMemory (Refused g)) (sym fault) tt)
due_by_line_alone line (Err line_fault.Memory) text (Text bytes) is made fault = absurd fault
due_by_line_alone line (Err line_fault.Memory) text (No bytes) is made fault = absurd fault

pub format_by_line_alone : (line : Line) (r : Result Settings LineFault) (due : Due) (how : Format) → IsAnswer line r → IfErr r (λ f. IsDueOfFault f due)
    → how ≡ format_of_answer r → IsFormatOfLine line due how
format_by_line_alone line (Ok settings) due how is fault e = inl (e ∙ sym (ap format_by is))
format_by_line_alone line (Err line_fault.Refused) due how is fault e = inl (e ∙ sym (ap format_by is))
format_by_line_alone line (Err (line_fault.Help text)) due how is fault e = inl (e ∙ sym (ap format_by is))
format_by_line_alone line (Err (line_fault.Version text)) due how is fault e = inl (e ∙ sym (ap format_by is))
format_by_line_alone line (Err line_fault.Memory) due how is fault e = inr (subst (λ f. IsTextOfMemory due f) (sym e) fault)
