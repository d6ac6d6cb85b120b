-- The parts that are left have to stay within what is left.
use Rattle.std.proofs.Common.{◌≡◌, nat_le, drop}
use Rattle.qs_line.specs.audit.Limits.{most_actors}
use Rattle.qs_line.specs.audit.Parts.{length_of}
use Rattle.qs_line.proofs.reading.is_short.Given as goal

abbrev pub invariant-loop-part : goal.invariant-loop-part
invariant-loop-part l = nat_le (length_of (drop l.part-index l.parts)) l.left ≡ nat_le (length_of l.parts) most_actors
