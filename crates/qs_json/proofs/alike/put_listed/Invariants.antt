-- The outcomes before this place are there.
use Rattle.qs_text.specs.audit.Texts.{texts_up_to}
use Rattle.qs_text.specs.Texts.{Puts}
use Rattle.qs_json.specs.AlikeJson.{alike_json_at}
use Rattle.qs_json.proofs.alike.put_listed.Given as goal

abbrev pub invariant-loop-place : goal.invariant-loop-place
invariant-loop-place l = Puts (texts_up_to l.place (alike_json_at l.program l.found l.counts)) l.initial.out.items l.out.items
