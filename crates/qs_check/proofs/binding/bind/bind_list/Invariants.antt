use Rattle.std.proofs.Common.{◌≡◌, [], drop, map}
use Rattle.qs_program.specs.audit.Binding.{bound}
use Rattle.qs_check.proofs.binding.Binds.{with_firsts}
use Rattle.qs_check.proofs.binding.bind.bind_list.Given as goal

abbrev pub invariant-loop-name : goal.invariant-loop-name
invariant-loop-name l = with_firsts [] (map (bound l.binding) l.names) ≡ with_firsts l.reserved.items (map (bound l.binding) (drop l.name-index l.names))
