use Rattle.qs_report.proofs.UniqueTexts.{one_graph_text}
use Rattle.qs_report.proofs.laws.graph_texts_are_unique.Goals as goal

pub returns : goal.returns
returns c = record { unique = one_graph_text }
