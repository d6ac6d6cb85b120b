use Rattle.std.proofs.Common.{◌≡◌, ◌+◌, ◌≤◌, min, drop}
use Rattle.qs_program.specs.audit.Limits.{most_requests}
use Rattle.qs_program.specs.audit.Loads.{load_of}
use Rattle.qs_program.specs.Views.{statements_of}
use Rattle.qs_program.proofs.code.+load.Given as goal

abbrev pub invariant-Body::load-loop-stmt : goal.invariant-Body::load-loop-stmt
invariant-Body::load-loop-stmt l = record {
  small : l.load ≤ most_requests + 1;
  whole : min (l.load + load_of (statements_of (drop l.stmt-index l.stmt-items)) l.object) (most_requests + 1) ≡ min (load_of (statements_of l.stmt-items) l.object) (most_requests + 1);
}
