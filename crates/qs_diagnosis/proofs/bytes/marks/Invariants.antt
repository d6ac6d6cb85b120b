-- What stands below the bytes before this one is there.
use Rattle.std.proofs.Common.{◌≡◌, flat_map, take}
use Rattle.qs_diagnosis.specs.Excerpts.{below}
use Rattle.qs_diagnosis.proofs.bytes.marks.Given as goal

abbrev pub invariant-loop-byte : goal.invariant-loop-byte
invariant-loop-byte l = l.out.items ≡ flat_map (below l.is_text l.mark) (take l.byte-index l.bytes)
