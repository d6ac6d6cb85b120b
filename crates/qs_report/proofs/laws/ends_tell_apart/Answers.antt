use Rattle.qs_report.proofs.EndsApart.{ends_tell_apart}
use Rattle.qs_report.proofs.laws.ends_tell_apart.Goals as goal

pub returns : goal.returns
returns c = record { apart = ends_tell_apart }
