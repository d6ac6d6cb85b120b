use Rattle.std.proofs.lemmas.Result.{err_from_is_err_and}
use Rattle.std.proofs.Common.{length}
use Rattle.qs_check.specs.audit.fault_places.Places.{scope_or_fault, request_places, atoms_places, call_places}
use Rattle.qs_check.proofs.fault_places.Walks.{fails_first, meets_then, meets_err}
use Rattle.qs_check.proofs.fault_places.walk.check_call.Goals as goal

pub returns-in_err-request : goal.returns-in_err-request
returns-in_err-request c =
    let p = err_from_is_err_and c.from_residual.result c.from_residual.ensures.1 in
    let call = c.args.call.now in
    let s = c.args.scope.now in
    record { meets = meets_err c.from_residual.result p.0 c.in_err-request.field-0.0 (scope_or_fault s (call_places c.args.asks call)) s p.1 p.2 (fails_first c.in_err-request.field-0.0 s (request_places c.args.asks call.object call.op (length call.args)) (atoms_places call.args) (rw c.as_slice-args.ensures.same at c.in_err-request.ensures.meets)) }

pub returns : goal.returns
returns c =
    let call = c.args.call.now in
    let s = c.args.scope.now in
    record { meets = meets_then c.check_atoms.result s s c.check_atoms.new.scope (request_places c.args.asks call.object call.op (length call.args)) (atoms_places call.args) (rw c.as_slice-args.ensures.same at c.in_ok-request.ensures.meets) (rw c.as_slice-args.ensures.same at c.check_atoms.ensures.meets) }
