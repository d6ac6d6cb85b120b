use Rattle.std.proofs.lemmas.Result.{err_from_is_err_and}
use Rattle.std.proofs.Common.{false}
use Rattle.qs_check.specs.audit.fault_places.Places.{scope_or_fault, separate, listed_places, places, block_places}
use Rattle.qs_check.proofs.fault_places.Walks.{fails_after, meets_after, meets_err}
use Rattle.qs_check.proofs.fault_places.walk.check_block.Goals as goal

pub returns-in_err-check_list : goal.returns-in_err-check_list
returns-in_err-check_list c =
    let p = err_from_is_err_and c.from_residual-in_err-check_list.result c.from_residual-in_err-check_list.ensures.1 in
    let block = c.args.block.now in
    let s = c.args.scope.now in
    let fault = c.in_err-check_list.field-0.0 in
    record { meets = meets_err c.from_residual-in_err-check_list.result p.0 fault (scope_or_fault s (block_places block)) c.check_list.new.scope p.1 p.2 (fails_after s c.separate.new.self separate (listed_places block.reserved) (places false block.body) c.in_ok-separate.ensures.meets fault (rw c.as_slice.ensures.same at c.in_err-check_list.ensures.meets)) }

pub returns : goal.returns
returns c =
    let block = c.args.block.now in
    let s = c.args.scope.now in
    record { meets = meets_after s c.separate.new.self separate (listed_places block.reserved) (places false block.body) c.in_ok-separate.ensures.meets c.check_body.result c.check_list.new.scope c.check_body.new.scope (rw c.as_slice.ensures.same at c.in_ok-check_list.ensures.meets) c.check_body.ensures.meets }
