use Rattle.std.proofs.Common.{◌≡◌, ℕ, ◌<◌, ◌≤◌, length, slice_index_or}
use Rattle.qs_program.specs.audit.Limits.{most_handlers, most_requests}
use Rattle.qs_program.specs.audit.Loads.{load_of}
use Rattle.qs_program.specs.audit.Program.{block_at}
use Rattle.qs_syncset.proofs.code.loads_of.Given as goal

abbrev pub invariant-loop-handler : goal.invariant-loop-handler
invariant-loop-handler l = record {
  width : length l.loads ≡ most_handlers;
  done : (h : ℕ) → h < l.handler → slice_index_or l.loads h 0 ≡ load_of (block_at l.program l.client l.block).body h;
  limit : (h : ℕ) → slice_index_or l.loads h 0 ≤ most_requests;
}
