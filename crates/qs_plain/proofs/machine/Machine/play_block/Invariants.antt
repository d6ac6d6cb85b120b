use Rattle.std.proofs.Common.{◌≡◌, ◌++◌, ◌∷◌, [], suc}
use Rattle.qs_meaning.specs.audit.Solo.{put}
use Rattle.qs_plain_laws.proofs.orders.AloneSteps.{left_of}
use Rattle.qs_plain.proofs.Names.{blocks_begun, plain_of}
use Rattle.qs_plain.proofs.Blocks.{Stands}
use Rattle.qs_plain.proofs.machine.Machine.play_block.Given as goal

abbrev pub invariant-turns : goal.invariant-turns
invariant-turns l = record {
  program : l.self.program ≡ l.fn.self.program;
  stands : Stands l.fn.self.program (l.fn.self.order ++ record { client = l.client; index = blocks_begun l.fn.self l.client } ∷ [])
      (put (blocks_begun l.fn.self) l.client (suc (blocks_begun l.fn.self l.client)))
      (record { client = l.client; index = blocks_begun l.fn.self l.client }) (plain_of l.fn.self) (plain_of l.self);
}

abbrev pub decreases-turns : goal.decreases-turns
decreases-turns l = left_of (record { client = l.client; index = blocks_begun l.fn.self l.client }) (plain_of l.self)
