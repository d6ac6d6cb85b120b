-- The bytes before this one are there as they are shown.
use Rattle.std.proofs.Common.{◌≡◌, flat_map, take}
use Rattle.qs_diagnosis.specs.Excerpts.{shown}
use Rattle.qs_diagnosis.proofs.bytes.shown_bytes.Given as goal

abbrev pub invariant-loop-byte : goal.invariant-loop-byte
invariant-loop-byte l = l.out.items ≡ flat_map (shown l.is_text) (take l.byte-index l.bytes)
