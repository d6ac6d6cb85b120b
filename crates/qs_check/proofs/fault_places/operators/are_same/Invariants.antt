use Rattle.std.proofs.Common.{◌≡◌, drop}
use Rattle.qs_program.specs.audit.Numbering.{same_name}
use Rattle.qs_check.proofs.fault_places.operators.are_same.Given as goal

abbrev pub invariant-loop-i : goal.invariant-loop-i
invariant-loop-i l = same_name l.word l.known ≡ same_name (drop l.i l.word) (drop l.i l.known)
