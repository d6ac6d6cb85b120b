use Rattle.std.proofs.Common.{◌≡◌, drop, map}
use Rattle.qs_played.specs.declared.schedule.actor.Actor.TheVariants as actor
use Rattle.qs_plain_laws.specs.audit.PlainSchedule.{plays}
use Rattle.qs_plain.specs.Rules.{plain_of}
use Rattle.qs_plain.proofs.machine.Machine.turn.Given as goal

abbrev pub invariant-loop-handler : goal.invariant-loop-handler
invariant-loop-handler l = record {
  program : l.self.program ≡ l.initial.self.program;
  value : plays l.initial.self.program (map actor.Handler (drop l.handler-index l.handlers)) (plain_of l.self)
      ≡ plays l.initial.self.program (map actor.Handler l.handlers) (plain_of l.initial.self);
}
