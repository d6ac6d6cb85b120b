-- The workers that are given back stand in the order of the workers before the run, and the starter was asked for the
-- handlers and then for the clients.
use Rattle.std.proofs.Common.{◌+◌, vec_len, arith}
use Rattle.qs_run.specs.Workers.{ClientHasRun, HandlerHasServed}
use Rattle.qs_run.proofs.ReversedPairs.{turned_back}
use Rattle.qs_run.proofs.StartAnswers.{asked_inside}
use Rattle.qs_run.proofs.start.threads.run_workers.Goals as goal

pub returns-in-Ok-clause-served : goal.returns-in-Ok-clause-served
returns-in-Ok-clause-served g c =
    turned_back (HandlerHasServed g.D.DeskName.program) _ _ _ _ c.turned_group.ensures.turned c.turned.ensures.turned c.in-Ok.ensures.worked.0

pub returns-in-Ok-clause-ran : goal.returns-in-Ok-clause-ran
returns-in-Ok-clause-ran g c =
    turned_back ClientHasRun _ _ _ _ c.turned_group-clients.ensures.turned c.turned-in-Ok.ensures.turned c.in-Ok.ensures.inside.3.1.0.0

pub returns-in-Ok-clause-all : goal.returns-in-Ok-clause-all
returns-in-Ok-clause-all g c =
    let group = c.in-Ok.ensures.inside in
    asked_inside g.S.Starter.answers 0 (vec_len c.turned_group.result.ready) (vec_len c.turned_group-clients.result.ready) (vec_len c.args.handlers.ready + vec_len c.args.clients.ready) _ _ _ _
    (omega (arith, c.turned_group.ensures.many, c.turned_group-clients.ensures.many)) group.2 group.3.1.1.1.0

pub returns-clause-refused : goal.returns-clause-refused
returns-clause-refused g c =
    let group = c.in-Err.ensures.inside in
    asked_inside g.S.Starter.answers 0 (vec_len c.turned_group.result.ready) (vec_len c.turned_group-clients.result.ready) (vec_len c.args.handlers.ready + vec_len c.args.clients.ready) _ _ _ _
    (omega (arith, c.turned_group.ensures.many, c.turned_group-clients.ensures.many)) group.2 group.3.1.1.1.0
