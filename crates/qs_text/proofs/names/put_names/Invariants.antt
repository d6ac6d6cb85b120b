-- The names before this one are there, each after a space.
use Rattle.std.proofs.Common.{◌≡◌, ◌++◌, codes, flat_map, take}
use Rattle.qs_text.specs.Words.{name_of}
use Rattle.qs_text.proofs.names.put_names.Given as goal

abbrev pub invariant-loop-name : goal.invariant-loop-name
invariant-loop-name l = l.out.items ≡ l.initial.out.items ++ flat_map (λ name. codes " " ++ name_of l.program l.client name) (take l.name-index l.names)
