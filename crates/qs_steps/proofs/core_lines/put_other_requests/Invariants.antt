-- The requests before this one are there, each after what stands between two.
use Rattle.std.proofs.Common.{◌≡◌, ◌++◌, flat_map, take}
use Rattle.qs_steps.specs.Forms.{between, request_in}
use Rattle.qs_steps.proofs.core_lines.put_other_requests.Given as goal

abbrev pub invariant-loop-request : goal.invariant-loop-request
invariant-loop-request l = l.out.items ≡ l.initial.out.items ++ flat_map (λ r. between l.form ++ request_in l.form l.program r) (take l.request-index l.requests)
