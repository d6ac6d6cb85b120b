-- The tickets before this place are there.
use Rattle.qs_text.specs.audit.Texts.{texts_up_to}
use Rattle.qs_text.specs.Texts.{Puts}
use Rattle.qs_json.specs.audit.Pieces.{element}
use Rattle.qs_json.specs.audit.RunJson.{ticket_json}
use Rattle.qs_json.proofs.runs.put_tickets.Given as goal

abbrev pub invariant-loop-place : goal.invariant-loop-place
invariant-loop-place l = Puts (texts_up_to l.place (element (ticket_json l.counts l.program l.played))) l.initial.out.items l.out.items
