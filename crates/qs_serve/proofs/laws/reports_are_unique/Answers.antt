use Rattle.qs_serve.proofs.UniqueReports.{one_report}
use Rattle.qs_serve.proofs.laws.reports_are_unique.Goals as goal

pub returns : goal.returns
returns c = record { unique = one_report }
