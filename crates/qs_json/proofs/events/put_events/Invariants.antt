-- The requests before this place are there.
use Rattle.qs_text.specs.audit.Texts.{texts_up_to}
use Rattle.qs_text.specs.Texts.{Puts}
use Rattle.qs_json.specs.audit.Pieces.{element}
use Rattle.qs_json.specs.audit.RunJson.{request_json}
use Rattle.qs_json.proofs.events.put_events.Given as goal

abbrev pub invariant-loop-place : goal.invariant-loop-place
invariant-loop-place l = Puts (texts_up_to l.place (element (request_json l.program l.trace l.fates))) l.initial.out.items l.out.items
