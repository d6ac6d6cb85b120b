-- None before this one has the name.
use Rattle.std.proofs.Common.{◌≡◌, drop}
use Rattle.std.specs.List.{position_from}
use Rattle.qs_program.specs.declared.program.Declared.{Declared}
use Rattle.qs_program.specs.audit.Numbering.{same_name}
use Rattle.qs_line.proofs.named.object_called.Given as goal

abbrev pub invariant-loop-object : goal.invariant-loop-object
invariant-loop-object l =
    position_from (λ (x : Declared). same_name l.name x.name) 0 l.program.objects ≡ position_from (λ (x : Declared). same_name l.name x.name) l.object (drop l.object l.program.objects)
