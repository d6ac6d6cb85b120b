use Rattle.qs_text.proofs.Parts.{last, then}
use Rattle.qs_json.proofs.outcomes.put_standing.Goals as goal

pub returns : goal.returns
returns c = record { ok = last _ _ _ (then (then c.in_ok-put_word.ensures.ok c.in_ok-put_objects.ensures.ok) c.in_ok-put_word-2.ensures.ok) (last _ _ _ (then c.in_ok-put_word-3.ensures.ok c.in_ok-put_clients.ensures.ok) c.put_word-4.ensures.ok) }
