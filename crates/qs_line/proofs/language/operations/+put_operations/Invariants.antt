-- Fewer operations are left each time.
use Rattle.std.proofs.Common.{length}
use Rattle.qs_line.proofs.language.operations.+put_operations.Given as goal

abbrev pub decreases-put_operations : goal.decreases-put_operations
decreases-put_operations l = length l.operations.now
