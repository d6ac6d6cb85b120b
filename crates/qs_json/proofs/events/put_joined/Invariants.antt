-- The arguments before this place are there.
use Rattle.std.proofs.Common.{get_or, pos}
use Rattle.std.specs.Fmt.{signed_decimal}
use Rattle.qs_text.specs.audit.Texts.{texts_up_to}
use Rattle.qs_text.specs.Texts.{Puts}
use Rattle.qs_json.specs.audit.Pieces.{element}
use Rattle.qs_json.proofs.events.put_joined.Given as goal

abbrev pub invariant-loop-place : goal.invariant-loop-place
invariant-loop-place l = Puts (texts_up_to l.place (element (λ i. signed_decimal (get_or l.args i (pos 0))))) l.initial.out.items l.out.items
