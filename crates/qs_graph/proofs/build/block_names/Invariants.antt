-- The names before this one are there, and there is room for all.
use Rattle.std.proofs.Common.{◌≡◌, ◌≤◌, length, map, take, vec_capacity}
use Rattle.qs_graph.specs.audit.Names.{named}
use Rattle.qs_graph.proofs.build.block_names.Given as goal

abbrev pub invariant-loop-name : goal.invariant-loop-name
invariant-loop-name l = record {
  names : l.names.items ≡ map (named l.program l.client) (take l.name-index l.reserved);
  room : length l.reserved ≤ vec_capacity l.names;
}
