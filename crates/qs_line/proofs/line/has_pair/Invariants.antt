use Rattle.std.proofs.Common.{◌≡◌, false, take}
use Rattle.std.specs.List.{list_any}
use Rattle.clap.specs.Words.{found_of, rows_of}
use Rattle.qs_line.specs.audit.Apart.{both_stand_at}
use Rattle.qs_line.proofs.line.has_pair.Given as goal

abbrev pub invariant-loop-one : goal.invariant-loop-one
invariant-loop-one l = list_any (both_stand_at (rows_of (found_of l.found))) (take l.one-index l.pairs) ≡ false
