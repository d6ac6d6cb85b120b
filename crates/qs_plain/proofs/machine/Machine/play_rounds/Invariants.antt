use Rattle.std.proofs.Common.{◌≡◌}
use Rattle.qs_played.specs.audit.Schedule.{actors_of, rounds_of}
use Rattle.qs_plain_laws.specs.audit.PlainSchedule.{plays}
use Rattle.qs_plain.specs.Rules.{plain_of}
use Rattle.qs_plain.proofs.machine.Machine.play_rounds.Given as goal

abbrev pub invariant-loop-round : goal.invariant-loop-round
invariant-loop-round l = record {
  program : l.self.program ≡ l.initial.self.program;
  value : plain_of l.self ≡ plays l.initial.self.program (rounds_of l._round (actors_of l.initial.self.program)) (plain_of l.initial.self);
}
