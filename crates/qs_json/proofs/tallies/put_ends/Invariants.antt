-- The ends before this place are there.
use Rattle.qs_text.specs.audit.Texts.{texts_up_to}
use Rattle.qs_text.specs.Texts.{Puts}
use Rattle.qs_json.specs.TallyJson.{counted_json_at}
use Rattle.qs_json.proofs.tallies.put_ends.Given as goal

abbrev pub invariant-loop-place : goal.invariant-loop-place
invariant-loop-place l = Puts (texts_up_to l.place (counted_json_at l.program l.listed l.ends)) l.initial.out.items l.out.items
