-- Which scripts are accepted, and why the others are not.
use Rattle.std.specs.Prelude.{nat_lt, if◌then◌else◌, List, Option, Some, None, Ok, Err}
use Rattle.qs_script.specs.declared.tree.tree.Item.{Item}
use Rattle.qs_program.specs.audit.Limits.{most_requests, most_steps}
use Rattle.qs_check.specs.declared.fault_places.fault.CheckFault.{CheckFault}
use Rattle.qs_check.specs.declared.fault_places.fault.CheckFault.TheVariants as f
use Rattle.qs_check.specs.audit.fault_places.Places.{ScopeOrFault, scope_or_fault, start, script_places}
use Rattle.qs_program.specs.audit.Program.{ProgramShape, whole_load, whole_weight}
use Rattle.qs_check.specs.audit.resolution.Resolve.{program_of_items}

-- what is wrong with a program whose text is right
abbrev pub excess_of : ProgramShape → Option CheckFault
excess_of p =
    if nat_lt most_requests (whole_load p) then Some f.Load else
    (if nat_lt most_steps (whole_weight p) then Some f.Weight else None)

abbrev pub first_fault : ScopeOrFault → Option CheckFault → Option CheckFault
first_fault (Ok s) after = after
first_fault (Err fault) after = Some fault

-- the first fault of a script in text order, and after the whole text its excess of load, then of weight
abbrev pub fault_of : List Item → Option CheckFault
fault_of items = first_fault (scope_or_fault start (script_places items)) (excess_of (program_of_items items))
