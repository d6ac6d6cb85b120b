-- None of the blocks so far reserves the handler.
use Rattle.std.proofs.Common.{◌≡◌, false, take}
use Rattle.qs_run.proofs.Names.{BlockShape, client_at, is_in, list_any}
use Rattle.qs_run.proofs.prepare.lanes.ever_reserves.Given as goal

abbrev pub invariant-loop-block : goal.invariant-loop-block
invariant-loop-block l = list_any (λ (b : BlockShape). is_in b.reserved l.handler) (take l.block (client_at l.program l.client).blocks) ≡ false
