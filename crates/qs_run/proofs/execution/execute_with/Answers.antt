-- The starter after the run is the one that the run gave back.
use Rattle.std.proofs.Common.{◌≡◌, rules, subst}
use Rattle.std.specs.Prelude.{IfErr, IfOk}
use Rattle.qs_run.specs.Starts.{IsRefusal, LetAllStart, worker_count}
use Rattle.qs_run.proofs.execution.execute_with.Goals as goal

pub returns-clause-started : goal.returns-clause-started
returns-clause-started g c =
    let run = c.run_lent-starter in
    let back : run.result.0.now ≡ c.starter-1.given.0 = search rules in
    subst (λ s. IfOk run.result.1 (λ _. LetAllStart g.S.Starter.answers 0 (worker_count c.args.program.now) c.args.starter.now s)) back run.ensures.started

pub returns-clause-refused : goal.returns-clause-refused
returns-clause-refused g c =
    let run = c.run_lent-starter in
    let back : run.result.0.now ≡ c.starter-1.given.0 = search rules in
    subst (λ s. IfErr run.result.1 (λ fault. IsRefusal g.S.Starter.answers (worker_count c.args.program.now) fault c.args.starter.now s)) back run.ensures.refused
