use Rattle.std.proofs.Common.{◌≡◌, drop}
use Rattle.qs_check.specs.audit.fault_places.Places.{scope_or_fault, blocks_places}
use Rattle.qs_check.proofs.fault_places.walk.check_blocks.Given as goal

abbrev pub invariant-loop-block : goal.invariant-loop-block
invariant-loop-block l = scope_or_fault l.initial.scope (blocks_places l.blocks) ≡ scope_or_fault l.scope (blocks_places (drop l.block-index l.blocks))
