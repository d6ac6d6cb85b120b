-- None before this one has the name.
use Rattle.std.proofs.Common.{◌≡◌, drop}
use Rattle.std.specs.List.{position_from}
use Rattle.qs_program.specs.audit.Program.{ClientShape}
use Rattle.qs_program.specs.audit.Numbering.{same_name}
use Rattle.qs_line.proofs.named.client_called.Given as goal

abbrev pub invariant-loop-client : goal.invariant-loop-client
invariant-loop-client l =
    position_from (λ (x : ClientShape). same_name l.name x.name) 0 l.program.clients ≡ position_from (λ (x : ClientShape). same_name l.name x.name) l.client (drop l.client l.program.clients)
