-- The bytes before this one have moved the spot, by one line or one column each.
use Rattle.std.proofs.Common.{◌≡◌, ◌≤◌, ◌+◌, fold, take}
use Rattle.qs_diagnosis.specs.Spots.{begin, moved}
use Rattle.qs_diagnosis.proofs.spot.spot_of.Given as goal

abbrev pub invariant-loop-byte : goal.invariant-loop-byte
invariant-loop-byte l = record {
  moved_so_far : l.spot ≡ fold moved begin (take l.byte-index (take l.fn.offset l.fn.text));
  lines : l.spot.line ≤ l.byte-index + 1;
  columns : l.spot.column ≤ l.byte-index + 1;
  first : 1 ≤ l.spot.column;
}
