-- What a run shows was asked for: it is what a run is.
use Rattle.qs_promises.specs.AsAsked.{RunsAreAsAsked}
use Rattle.qs_promises.specs.audit.Runs.{by_rules, on_machine, on_threads}
use Rattle.qs_promises.proofs.Calls.{over_on_threads}

pub as_asked : RunsAreAsAsked
as_asked p (by_rules picks rounds) r run = run.2
as_asked p (on_machine mode size picks rounds) r run = run.2
as_asked p (on_threads mode size) r run = over_on_threads p mode size r run
