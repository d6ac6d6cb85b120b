-- What the starter that is lent for a run has answered is what the starter itself has.
use Rattle.qs_run.specs.Starts.{worker_count}
use Rattle.qs_run.proofs.StartAnswers.{lent_run}
use Rattle.qs_run.proofs.execution.run_lent.Goals as goal

pub returns : goal.returns
returns g c =
    let run = c.run_program-starter.ensures in
    let it = lent_run g.S.Starter.answers (λ l. l.starter.now) (λ l. l.starter.ghost_name) (worker_count c.args.program.now) c.run_program-starter.result.1 _ _ run.started run.refused in
    record { same = it.0; outcome = run.outcome; started = it.1; refused = it.2 }
