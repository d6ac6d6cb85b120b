use Rattle.std.proofs.lemmas.Result.{err_from_is_err_and}
use Rattle.std.proofs.Common.{drop, ◌+◌}
use Rattle.qs_check.specs.audit.fault_places.Places.{scope_or_fault, block_places, blocks_places}
use Rattle.qs_check.proofs.fault_places.Walks.{parts_at, walk_fails, walk_goes_on, meets_err}
use Rattle.qs_check.proofs.fault_places.walk.check_blocks.Goals as goal

pub returns-in_err-check_block : goal.returns-in_err-check_block
returns-in_err-check_block c =
    let p = err_from_is_err_and c.from_residual.result c.from_residual.ensures.1 in
    let xs = c.args.blocks.now in
    let i = c.loop-block.block-index in
    let fault = c.in_err-check_block.field-0.0 in
    let h = walk_fails c.args.scope.now c.loop-block.scope (blocks_places xs) (blocks_places (drop i xs)) (block_places c.block-item.result) (blocks_places (drop (i + 1) xs)) c.loop-block.invariant (parts_at block_places xs i c.block-item.result c.loop-block-test.true c.block-item.is) fault c.in_err-check_block.ensures.meets in
    record { meets = meets_err c.from_residual.result p.0 fault (scope_or_fault c.args.scope.now (blocks_places xs)) c.check_block.new.scope p.1 p.2 h }

pub loop-block-preserved : goal.loop-block-preserved
loop-block-preserved c =
    let xs = c.args.blocks.now in
    let i = c.loop-block.block-index in
    walk_goes_on c.args.scope.now c.loop-block.scope (blocks_places xs) (blocks_places (drop i xs)) (block_places c.block-item.result) (blocks_places (drop (i + 1) xs)) c.loop-block.invariant (parts_at block_places xs i c.block-item.result c.loop-block-test.true c.block-item.is) c.check_block.new.scope c.in_ok-check_block.ensures.meets
