use Rattle.qs_run.proofs.handler.ServedTasks.{HasTasks}
use Rattle.qs_run.specs.handler.Passes.{ArePassed}
use Rattle.qs_run.proofs.handler.serving.serve.Given as goal

-- what was done so far; and the gate was passed for what was taken
abbrev pub invariant-loop : goal.invariant-loop
invariant-loop g l =
    HasTasks g.D.DeskName.program l.fn.tickets.handler l.fn.held l.fn.lanes l.mind l.tickets l.lanes
    × ArePassed (g.G.Passage.moves l.fn.gate) l.fn.tickets.handler l.fn.log l.tickets.taken l.log
