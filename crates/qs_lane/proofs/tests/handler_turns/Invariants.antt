use Rattle.std.proofs.Common.{◌≡◌, ◌≤◌, length}
use Rattle.qs_chunk.specs.audit.LaneRun.{syncs}
use Rattle.qs_lane.proofs.tests.handler_turns.Given as goal

abbrev pub invariant-loop-turn : goal.invariant-loop-turn
invariant-loop-turn g l = length l.inside.given ≤ syncs l.inside.received
