use Rattle.std.proofs.Common.{ap, arith}
use Rattle.qs_program.specs.audit.Program.{BlockShape}
use Rattle.qs_program.specs.Sound.{levels_of}
use Rattle.qs_messages.proofs.Levels.{levels_small}
use Rattle.qs_messages.proofs.limit_use.greatest.amount_in_block.Goals as goal

pub returns-in-Nesting : goal.returns-in-Nesting
returns-in-Nesting c = record {
  exact =
      rw c.in-Nesting.is
      (omega (
        arith,
        c.from.ensures,
        c.saturating_sub.ensures,
        c.body_levels.ensures.capped,
        ap levels_of c.body-body.ensures.value,
        ap (λ (b : BlockShape). levels_of b.body) c.block.ensures.value,
        levels_small c.args.program.now c.args.client c.args.block c.keeps_sound.ensures.sound,
      ));
}
