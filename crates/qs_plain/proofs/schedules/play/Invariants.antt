use Rattle.std.proofs.Common.{◌≡◌, drop}
use Rattle.qs_plain_laws.proofs.Names.{begin, plays}
use Rattle.qs_plain.specs.Rules.{plain_of}
use Rattle.qs_plain.proofs.schedules.play.Given as goal

abbrev pub invariant-loop-pick : goal.invariant-loop-pick
invariant-loop-pick l = record {
  program : l.rules.program ≡ l.program;
  value : plays l.program (drop l.pick-index l.picks) (plain_of l.rules) ≡ plays l.program l.picks (begin l.program);
}
