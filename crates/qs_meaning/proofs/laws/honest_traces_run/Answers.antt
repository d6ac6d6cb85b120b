use Rattle.qs_meaning.proofs.TreeWalks.{honest_traces_run}
use Rattle.qs_meaning.proofs.laws.honest_traces_run.Goals as goal

pub returns : goal.returns
returns c = record { run = honest_traces_run }
