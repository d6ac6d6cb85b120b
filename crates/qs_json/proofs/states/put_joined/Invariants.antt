-- The values before this place are there, and each is a word.
use Rattle.std.proofs.Common.{◌<◌, ℕ, get_or, pos}
use Rattle.std.specs.Fmt.{signed_decimal}
use Rattle.qs_objects.specs.audit.Objects.{values_of}
use Rattle.qs_text.specs.TellApart.{IsWord}
use Rattle.qs_text.specs.audit.Texts.{texts_up_to}
use Rattle.qs_text.specs.Texts.{Puts}
use Rattle.qs_json.specs.audit.Pieces.{element}
use Rattle.qs_json.proofs.states.put_joined.Given as goal

abbrev pub invariant-loop-place : goal.invariant-loop-place
invariant-loop-place l =
    Puts (texts_up_to l.place (element (λ i. signed_decimal (get_or (values_of l.object.content) i (pos 0))))) l.initial.out.items l.out.items
    × ((i : ℕ) → i < l.place → IsWord (get_or (values_of l.object.content) i (pos 0)))
