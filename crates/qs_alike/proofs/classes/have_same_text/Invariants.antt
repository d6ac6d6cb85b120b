use Rattle.std.proofs.Common.{◌≡◌, take}
use Rattle.qs_program.specs.audit.Program.{client_at}
use Rattle.qs_alike.proofs.classes.have_same_text.Given as goal

abbrev pub invariant-loop-index : goal.invariant-loop-index
invariant-loop-index l = take l.index (client_at l.program l.one).blocks ≡ take l.index (client_at l.program l.other).blocks
