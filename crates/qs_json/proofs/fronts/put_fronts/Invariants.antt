-- The fronts before this place are there.
use Rattle.qs_text.specs.audit.Texts.{texts_up_to}
use Rattle.qs_text.specs.Texts.{Puts}
use Rattle.qs_json.specs.FrontsJson.{front_json_at}
use Rattle.qs_json.proofs.fronts.put_fronts.Given as goal

abbrev pub invariant-loop-place : goal.invariant-loop-place
invariant-loop-place l = Puts (texts_up_to l.place (front_json_at l.program l.found)) l.initial.out.items l.out.items
