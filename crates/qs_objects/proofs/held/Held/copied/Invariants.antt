use Rattle.std.proofs.Common.{◌≡◌, ◌≤◌, take, vec_capacity}
use Rattle.qs_objects.proofs.held.Held.copied.Given as goal

abbrev pub invariant-loop-entry : goal.invariant-loop-entry
invariant-loop-entry l = record {
  copied : l.entries.items ≡ take l.entry-index l.entry-items;
  room : l.self-inside.room ≤ vec_capacity l.entries;
}
