-- Beside what the headline reaches (`audit/Checked.antt`): what else contracts and proofs use.
use Rattle.std.specs.Prelude.{◌≡◌, ◌≢◌, List, Option, Some, None, Result, Ok, Err}
use Rattle.qs_script.specs.declared.tree.tree.Item.{Item}
use Rattle.qs_check.specs.declared.fault_places.fault.CheckFault.{CheckFault}
use Rattle.qs_check.specs.declared.fault_places.fault.CheckFault.TheVariants as f
use Rattle.qs_check.specs.declared.checker.Resolved.{Resolved}
use Rattle.qs_check.specs.audit.fault_places.Places.{scope_or_fault, start, script_places}
use Rattle.qs_program.specs.audit.Program.{ProgramShape}
use Rattle.qs_check.specs.audit.resolution.Resolve.{program_of_items}
use Rattle.qs_check.specs.audit.Checked.{first_fault, fault_of}

-- the first fault of a script's text
abbrev pub text_fault : List Item → Option CheckFault
text_fault items = first_fault (scope_or_fault start (script_places items)) None

-- the program of objects and clients
abbrev pub shape_of : Resolved → ProgramShape
shape_of r = record { objects = r.objects.items; clients = r.clients.items }

-- a script is accepted exactly where it has no fault, and its program is the script by number; else its fault is told,
-- unless memory runs out
abbrev pub IsCheckOf : List Item → Result ProgramShape CheckFault → Type 0
IsCheckOf items (Ok p) = (fault_of items ≡ None) × (p ≡ program_of_items items)
IsCheckOf items (Err fault) = fault ≢ f.Memory → fault_of items ≡ Some fault
