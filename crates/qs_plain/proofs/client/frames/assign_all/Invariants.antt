-- The assignments before the rest are done.
use Rattle.std.proofs.Common.{length}
use Rattle.qs_program.specs.Views.{statements_of}
use Rattle.qs_plain.specs.client.Opening.{Assigns}
use Rattle.qs_plain.proofs.client.frames.assign_all.Given as goal

abbrev pub invariant-assignments : goal.invariant-assignments
invariant-assignments l = Assigns (statements_of l.initial.stmts) l.initial.locals (statements_of l.rest) l.locals

abbrev pub decreases-assignments : goal.decreases-assignments
decreases-assignments l = length l.rest
