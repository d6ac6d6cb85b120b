use Rattle.std.proofs.Common.{◌≡◌, List, length}
use Rattle.qs_objects.specs.declared.Request.{Request}
use Rattle.qs_core.proofs.parts.TurnedChunks.{IsTurned}
use Rattle.qs_core.proofs.parts.requests.requests_of.Given as goal

-- what was copied, and what is left in front of it
abbrev pub invariant-loop-turn : goal.invariant-loop-turn
invariant-loop-turn l = record {
  turned : (left : List Request) × IsTurned l.initial.chunk.items l.chunk.items l.requests.items left;
  many : length l.requests.items ≡ l._turn;
  size : l.chunk.capacity ≡ l.initial.chunk.capacity;
}
