-- None of the blocks before this one reserves the object.
use Rattle.std.proofs.Common.{◌≡◌, false, take}
use Rattle.std.specs.List.{list_any}
use Rattle.qs_program.specs.audit.Program.{BlockShape, client_at}
use Rattle.qs_program.specs.audit.Sound.{is_in}
use Rattle.qs_messages.proofs.warned.finding.client_reserves.Given as goal

abbrev pub invariant-loop-block : goal.invariant-loop-block
invariant-loop-block l = list_any (λ (b : BlockShape). is_in b.reserved l.object) (take l.block (client_at l.program l.client).blocks) ≡ false
