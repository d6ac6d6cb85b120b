use Rattle.std.proofs.Common.{◌≡◌, ◌++◌, true, false, length, map}
use Rattle.qs_played.proofs.Names.{range_with_len, HasStep}
use Rattle.qs_played.specs.declared.schedule.actor.Actor.TheVariants as actor
use Rattle.qs_plain_laws.proofs.Names.{step, plays}
use Rattle.qs_plain.specs.Rules.{plain_of}
use Rattle.qs_plain.proofs.machine.Machine.round.Given as goal

abbrev pub invariant-loop-client : goal.invariant-loop-client
invariant-loop-client l = record {
  program : l.self.program ≡ l.initial.self.program;
  value : plain_of l.self ≡ plays l.initial.self.program (map actor.Client (range_with_len 0 l.client)) (plain_of l.initial.self);
  moved : l.stepped ≡ true → HasStep (step l.initial.self.program) (map actor.Client (range_with_len 0 l.client)) (plain_of l.initial.self);
  still : l.stepped ≡ false → l.self ≡ l.initial.self;
}

abbrev pub invariant-loop-handler : goal.invariant-loop-handler
invariant-loop-handler l = record {
  program : l.self.program ≡ l.initial.self.program;
  value : plain_of l.self ≡ plays l.initial.self.program (map actor.Handler (range_with_len 0 l.handler)) (plain_of l.initial.self);
  moved : l.stepped ≡ true → HasStep (step l.fn.self.program) (map actor.Client (range_with_len 0 (length l.fn.self.program.clients)) ++ map actor.Handler (range_with_len 0 l.handler)) (plain_of l.fn.self);
  still : l.stepped ≡ false → l.self ≡ l.fn.self;
}
