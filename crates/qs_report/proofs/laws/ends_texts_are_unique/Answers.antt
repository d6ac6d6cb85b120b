use Rattle.qs_report.proofs.UniqueEnds.{one_ends_text}
use Rattle.qs_report.proofs.laws.ends_texts_are_unique.Goals as goal

pub returns : goal.returns
returns c = record { unique = one_ends_text }
