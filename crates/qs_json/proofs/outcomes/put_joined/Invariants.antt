-- The clients before this place are there.
use Rattle.std.proofs.Common.{get_or}
use Rattle.qs_text.specs.audit.Texts.{texts_up_to}
use Rattle.qs_text.specs.Texts.{Puts}
use Rattle.qs_json.specs.audit.Pieces.{element}
use Rattle.qs_json.specs.OutcomesJson.{next_client_json}
use Rattle.qs_text.specs.audit.Words.{first_ticket}
use Rattle.qs_json.proofs.outcomes.put_joined.Given as goal

abbrev pub invariant-loop-place : goal.invariant-loop-place
invariant-loop-place l = Puts (texts_up_to l.place (element (λ i. next_client_json (get_or l.order i first_ticket)))) l.initial.out.items l.out.items
