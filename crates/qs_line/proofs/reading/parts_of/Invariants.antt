-- The parts of the text are those so far, and then those of the texts that are left.
use Rattle.std.proofs.Common.{◌≡◌, ◌==◌, map, drop}
use Rattle.std.specs.List.{slice_split}
use Rattle.qs_line.specs.audit.Parts.{part_in, parts_of}
use Rattle.qs_line.proofs.PartLists.{read_with}
use Rattle.qs_line.proofs.reading.parts_of.Given as goal

abbrev pub invariant-loop-part : goal.invariant-loop-part
invariant-loop-part l = parts_of (slice_split (λ byte. byte == 44) l.text) ≡ read_with part_in l.parts.items (map (λ part. part.now) (drop l.part-index l.part-items))
