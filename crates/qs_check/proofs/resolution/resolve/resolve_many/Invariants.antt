use Rattle.std.proofs.Common.{◌≡◌, ◌++◌, drop, map}
use Rattle.qs_check.specs.audit.resolution.Resolve.{atom_of}
use Rattle.qs_check.proofs.resolution.resolve.resolve_many.Given as goal

abbrev pub invariant-loop-atom : goal.invariant-loop-atom
invariant-loop-atom l = map (atom_of l.variables) l.atoms ≡ l.args ++ map (atom_of l.variables) (drop l.atom-index l.atoms)
