use Rattle.std.proofs.Common.{◌≡◌, ◌≤◌, false}
use Rattle.qs_chunk.specs.audit.Lanes.{is_asked}
use Rattle.qs_lane.proofs.tests.turn_round.Given as goal

abbrev pub invariant-loop-turn : goal.invariant-loop-turn
invariant-loop-turn g l = record {
  out_name : l.out.name ≡ l.initial.out.name;
  inside_name : l.inside.name ≡ l.initial.inside.name;
  quiet : is_asked false l.out.sent ≡ false;
  few : l.turns ≤ l.turn;
}
