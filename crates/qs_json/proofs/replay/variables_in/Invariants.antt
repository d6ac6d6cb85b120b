-- No later block is the client's.
use Rattle.std.proofs.Common.{◌≡◌}
use Rattle.qs_json.specs.audit.Replay.{variables_by, variables_in}
use Rattle.qs_json.proofs.replay.variables_in.Given as goal

abbrev pub invariant-loop-place : goal.invariant-loop-place
invariant-loop-place l = variables_in l.program l.played l.client ≡ variables_by l.program l.played l.place l.client
