-- The values before this one are there, each after a comma.
use Rattle.qs_dot.proofs.Common.{◌≡◌, ◌++◌, codes, flat_map, take, atom_text}
use Rattle.qs_dot.proofs.written.put_others.Given as goal

abbrev pub invariant-loop-atom : goal.invariant-loop-atom
invariant-loop-atom l = l.out.items ≡ l.initial.out.items ++ flat_map (λ atom. codes "," ++ atom_text l.variables atom) (take l.atom-index l.atoms)
