use Rattle.qs_questions.proofs.Replies.{replies_there, unchanged}
use Rattle.qs_questions.proofs.laws.replies.Goals as goal

pub returns : goal.returns
returns c = record { unchanged = unchanged; there = replies_there }
