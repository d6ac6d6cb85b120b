-- The names before this place are there.
use Rattle.std.proofs.Common.{get_or}
use Rattle.qs_text.specs.audit.Texts.{texts_up_to}
use Rattle.qs_text.specs.Texts.{Puts}
use Rattle.qs_json.specs.audit.Pieces.{element}
use Rattle.qs_json.specs.GraphJson.{name_json}
use Rattle.qs_json.proofs.graphs.put_joined.Given as goal

abbrev pub invariant-loop-place : goal.invariant-loop-place
invariant-loop-place l = Puts (texts_up_to l.place (element (λ i. name_json l.program l.client (get_or l.names i 0)))) l.initial.out.items l.out.items
