-- What is made of the answer of checking a script.
use Rattle.std.specs.Prelude.{Ok, Err, Result}
use Rattle.qs_check.specs.declared.fault_places.fault.CheckFault.{CheckFault}
use Rattle.qs_messages.specs.declared.limit_use.templates.TemplateUse.{TemplateUse}
use Rattle.qs_program.specs.audit.Program.{ProgramShape}
use Rattle.qs_report.specs.declared.faults.Fault.{Fault}
use Rattle.qs_report.specs.declared.faults.Fault.TheVariants as fault
use Rattle.qs_serve.specs.Due.{Lines}
use Rattle.qs_serve.specs.declared.asking.PreparedText.{PreparedText}

-- the program with the lines and the templates that were found, or the fault by which the script was refused
abbrev pub prepared_by : Lines → TemplateUse → Result ProgramShape CheckFault → Result PreparedText Fault
prepared_by lines templates (Ok p) = Ok (record { program = p; templates = templates; lines = lines })
prepared_by lines templates (Err f) = Err (fault.Check f)
