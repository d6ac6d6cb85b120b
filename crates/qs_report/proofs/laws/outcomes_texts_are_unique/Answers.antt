use Rattle.qs_report.proofs.UniqueOutcomes.{one_outcomes_text}
use Rattle.qs_report.proofs.laws.outcomes_texts_are_unique.Goals as goal

pub returns : goal.returns
returns c = record { unique = one_outcomes_text }
