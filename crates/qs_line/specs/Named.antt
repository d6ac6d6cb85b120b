-- Beside what the headline reaches (`audit/Named.antt`): what else contracts and proofs use.
use Rattle.std.specs.Prelude.{◌≡◌, List, Result, Err}
use Rattle.qs_line.specs.declared.fault.ListFault.{ListFault}
use Rattle.qs_line.specs.declared.fault.ListFault.TheVariants as fault

-- the fault is the list's, or memory ran out
abbrev pub IsListFault : {A : Type 0} → Result (List A) ListFault → ListFault → Type 0
IsListFault due fault.Memory = Unit {0}
IsListFault due (fault.Part place why) = due ≡ Err (fault.Part place why)
