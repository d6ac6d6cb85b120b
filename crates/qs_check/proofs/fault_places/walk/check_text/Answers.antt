use Rattle.std.proofs.lemmas.Result.{err_from_is_err_and}
use Rattle.qs_check.specs.audit.fault_places.Places.{scope_or_fault, blocks_places, formals_places, text_places}
use Rattle.qs_check.proofs.fault_places.Walks.{fails_first, meets_then, meets_err}
use Rattle.qs_check.proofs.fault_places.walk.check_text.Goals as goal

pub returns-in_err-check_formals : goal.returns-in_err-check_formals
returns-in_err-check_formals c =
    let p = err_from_is_err_and c.from_residual.result c.from_residual.ensures.1 in
    let t = c.args.item.now in
    let s = c.args.scope.now in
    let fault = c.in_err-check_formals.field-0.0 in
    record { meets = meets_err c.from_residual.result p.0 fault (scope_or_fault s (text_places t)) c.check_formals.new.scope p.1 p.2 (fails_first fault s (formals_places t.formals) (blocks_places t.blocks) (rw c.as_slice.ensures.same at c.in_err-check_formals.ensures.meets)) }

pub returns : goal.returns
returns c =
    let t = c.args.item.now in
    let s = c.args.scope.now in
    record { meets = meets_then c.check_blocks.result s c.check_formals.new.scope c.check_blocks.new.scope (formals_places t.formals) (blocks_places t.blocks) (rw c.as_slice.ensures.same at c.in_ok-check_formals.ensures.meets) (rw c.as_slice-2.ensures.same at c.check_blocks.ensures.meets) }
