use Rattle.std.proofs.Common.{◌≡◌, ℕ, ◌<◌, ◌≤◌, length, slice_index_or, vec_capacity}
use Rattle.qs_program.specs.audit.Program.{binding_of, block_at}
use Rattle.qs_graph.specs.audit.Names.{graph_of}
use Rattle.qs_syncset.specs.audit.Codes.{IsBlockCode, no_code}
use Rattle.qs_syncset.specs.audit.Modes.{is_static}
use Rattle.qs_syncset.proofs.code.compile.Given as goal

abbrev pub invariant-loop-block : goal.invariant-loop-block
invariant-loop-block l = record {
  count : length l.blocks.items ≡ l.block;
  room : l.count ≤ vec_capacity l.blocks;
  done : (k : ℕ) → k < l.block
      → IsBlockCode (is_static l.mode) (block_at l.program l.client k) (graph_of l.program l.client k) (binding_of l.program l.client) (slice_index_or l.blocks.items k no_code);
}
