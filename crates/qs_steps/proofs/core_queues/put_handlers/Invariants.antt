-- The handlers before this one are there, and the machine is as it was.
use Rattle.std.proofs.Common.{◌≡◌, ◌++◌}
use Rattle.qs_steps.proofs.Names.{core_of, handler_in, numbered}
use Rattle.qs_steps.proofs.core_queues.put_handlers.Given as goal

abbrev pub invariant-loop-handler : goal.invariant-loop-handler
invariant-loop-handler l = record {
  text : l.out.items ≡ l.initial.out.items ++ numbered l.form (handler_in l.form l.program (core_of l.initial.core)) l.handler;
  same : l.core ≡ l.initial.core;
}
