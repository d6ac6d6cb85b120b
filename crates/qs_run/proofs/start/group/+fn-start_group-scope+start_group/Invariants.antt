-- Each scope stands around the start of one worker fewer, so the recursion ends.
use Rattle.std.proofs.Common.{vec_len, ◌+◌, ◌*◌}
use Rattle.qs_run.proofs.start.group.+fn-start_group-scope+start_group.Given as goal

abbrev pub decreases-scope : goal.decreases-scope
decreases-scope g l = 2 * vec_len l.ready + 1

abbrev pub decreases-start_group : goal.decreases-start_group
decreases-start_group g l = 2 * vec_len l.group.ready
