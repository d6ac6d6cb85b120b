use Rattle.std.proofs.Common.{arith, ap, subst}
use Rattle.qs_program.specs.audit.Loads.{load_of}
use Rattle.qs_program.specs.audit.Program.{BlockShape}
use Rattle.qs_program.specs.Sound.{IsSound}
use Rattle.qs_program.proofs.Bounds.{load_of-whole}
use Rattle.qs_program.proofs.program.Program.load_of.Goals as goal

pub returns-clause-value : goal.returns-clause-value
returns-clause-value c =
    let sound : IsSound c.args.self.now = subst IsSound c.self.view_is c.self.invariant.0 in
    omega (
      arith,
      load_of-whole c.args.self.now c.args.client c.args.block c.args.object sound c.requires.client c.requires.block,
      sound.load,
      c.load.ensures.capped,
      ap (λ (b : BlockShape). load_of b.body c.args.object) (c.block.ensures.value),
    )

pub returns-clause-limit : goal.returns-clause-limit
returns-clause-limit c =
    let sound : IsSound c.args.self.now = subst IsSound c.self.view_is c.self.invariant.0 in
    omega (
      arith,
      load_of-whole c.args.self.now c.args.client c.args.block c.args.object sound c.requires.client c.requires.block,
      sound.load,
      c.load.ensures.capped,
      ap (λ (b : BlockShape). load_of b.body c.args.object) (c.block.ensures.value),
    )
