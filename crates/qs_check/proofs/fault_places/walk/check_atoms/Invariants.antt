use Rattle.std.proofs.Common.{◌≡◌, drop}
use Rattle.qs_check.specs.audit.fault_places.Places.{scope_or_fault, atoms_places}
use Rattle.qs_check.proofs.fault_places.walk.check_atoms.Given as goal

abbrev pub invariant-loop-atom : goal.invariant-loop-atom
invariant-loop-atom l = scope_or_fault l.initial.scope (atoms_places l.atoms) ≡ scope_or_fault l.scope (atoms_places (drop l.atom-index l.atoms))
