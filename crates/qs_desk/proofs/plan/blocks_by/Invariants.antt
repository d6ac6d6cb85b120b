use Rattle.std.proofs.Common.{◌≡◌, map, take}
use Rattle.qs_program.specs.audit.Program.{client_at}
use Rattle.qs_desk.specs.Plans.{list_of}
use Rattle.qs_desk.proofs.plan.blocks_by.Given as goal

abbrev pub invariant-loop-block : goal.invariant-loop-block
invariant-loop-block l = l.blocks.items ≡ map list_of (take l.block (client_at l.program l.client).blocks)
