use Rattle.std.proofs.Common.{◌≡◌, ◌≤◌, ◌+◌, ◌-◌, ◌*◌, max, vec_len, vec_capacity, drop}
use Rattle.qs_program.specs.Views.{single, size_of, statements_of}
use Rattle.qs_plain.specs.client.Frames.{above}
use Rattle.qs_plain.proofs.client.frames.+grow.Given as goal

abbrev pub decreases-grow : goal.decreases-grow
decreases-grow l = 2 * size_of l.body.now + 1

abbrev pub decreases-grow_stmt : goal.decreases-grow_stmt
decreases-grow_stmt l = 2 * size_of (single l.stmt.now)

abbrev pub invariant-grow-loop-stmt : goal.invariant-grow-loop-stmt
invariant-grow-loop-stmt l = record {
  items : l.frames.items ≡ l.initial.frames.items;
  len : vec_len l.frames ≡ vec_len l.initial.frames;
  larger : vec_capacity l.initial.frames ≤ vec_capacity l.frames;
  above : above (statements_of l.stmt-items) ≤ max (vec_capacity l.frames - vec_len l.frames) (above (statements_of (drop l.stmt-index l.stmt-items)));
}
