use Rattle.std.proofs.Common.{◌≡◌, ◌≤◌, ◌*◌}
use Rattle.qs_program.specs.audit.Limits.{most_requests}
use Rattle.qs_syncset.specs.audit.Codes.{code_at, load_at}
use Rattle.qs_client.specs.run.BlockSizes.{sum_below}
use Rattle.qs_client.proofs.run.begin.room_of.Given as goal

abbrev pub invariant-loop-handler : goal.invariant-loop-handler
invariant-loop-handler l = record {
  sum : l.room ≡ sum_below l.handler (load_at (code_at l.code l.block));
  few : l.room ≤ most_requests * l.handler;
}
