-- Fewer requests are left each time.
use Rattle.std.proofs.Common.{length}
use Rattle.qs_steps.proofs.marks.+put_others.Given as goal

abbrev pub decreases-put_others : goal.decreases-put_others
decreases-put_others l = length l.requests.now
