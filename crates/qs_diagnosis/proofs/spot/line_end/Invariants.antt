-- None of the bytes before this one is a LF.
use Rattle.std.proofs.Common.{◌≡◌, ◌+◌, drop}
use Rattle.qs_diagnosis.specs.Spots.{line_length}
use Rattle.qs_diagnosis.proofs.spot.line_end.Given as goal

abbrev pub invariant-loop-i : goal.invariant-loop-i
invariant-loop-i l = line_length (drop l.fn.from l.fn.text) ≡ l.i + line_length (drop l.i (drop l.fn.from l.fn.text))
