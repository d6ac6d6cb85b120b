-- The values before this place are there.
use Rattle.std.proofs.Common.{get_or}
use Rattle.qs_text.specs.audit.Texts.{texts_up_to}
use Rattle.qs_text.specs.Texts.{Puts}
use Rattle.qs_json.specs.ValuesJson.{no_value, value_json}
use Rattle.qs_json.specs.audit.Pieces.{element}
use Rattle.qs_json.proofs.values.put_joined.Given as goal

abbrev pub invariant-loop-place : goal.invariant-loop-place
invariant-loop-place l = Puts (texts_up_to l.place (element (λ i. value_json l.ends (get_or l.values i no_value)))) l.initial.out.items l.out.items
