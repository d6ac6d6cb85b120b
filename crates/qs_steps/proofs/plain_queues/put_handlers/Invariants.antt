-- The handlers before this one are there.
use Rattle.std.proofs.Common.{◌≡◌, ◌++◌}
use Rattle.qs_steps.proofs.Names.{handler_of, numbered, plain_of}
use Rattle.qs_steps.proofs.plain_queues.put_handlers.Given as goal

abbrev pub invariant-loop-handler : goal.invariant-loop-handler
invariant-loop-handler l = l.out.items ≡ l.initial.out.items ++ numbered l.form (handler_of l.form l.program (plain_of l.rules)) l.handler
