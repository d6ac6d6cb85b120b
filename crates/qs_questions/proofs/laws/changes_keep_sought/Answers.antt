use Rattle.qs_questions.proofs.NamedStay.{changes_keep_sought}
use Rattle.qs_questions.proofs.laws.changes_keep_sought.Goals as goal

pub returns : goal.returns
returns c = record { same = changes_keep_sought }
