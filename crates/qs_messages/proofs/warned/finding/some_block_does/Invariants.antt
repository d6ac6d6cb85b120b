-- None of the blocks before this one does it.
use Rattle.std.proofs.Common.{◌≡◌, false, take}
use Rattle.std.specs.List.{list_any}
use Rattle.qs_program.specs.audit.Program.{BlockShape, client_at}
use Rattle.qs_messages.specs.Doings.{does}
use Rattle.qs_messages.proofs.warned.finding.some_block_does.Given as goal

abbrev pub invariant-loop-block : goal.invariant-loop-block
invariant-loop-block l = list_any (λ (b : BlockShape). does l.doing b.body) (take l.block (client_at l.program l.client).blocks) ≡ false
