use Rattle.std.proofs.Common.{◌≡◌, ◌≤◌, false}
use Rattle.qs_chunk.specs.audit.Lanes.{is_asked}
use Rattle.qs_lane.proofs.tests.client_turns.Given as goal

abbrev pub invariant-loop-turn : goal.invariant-loop-turn
invariant-loop-turn g l = record {
  quiet : is_asked false l.out.sent ≡ false;
  few : l.turns ≤ l._turn;
}
