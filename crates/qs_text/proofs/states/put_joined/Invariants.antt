-- The values before this place are there, and each is a word.
use Rattle.std.proofs.Common.{◌≡◌, ◌<◌, ◌++◌, ℕ, get_or, pos}
use Rattle.qs_objects.specs.audit.Objects.{values_of}
use Rattle.qs_text.specs.TellApart.{IsWord}
use Rattle.qs_text.specs.audit.Texts.{texts_up_to, spaced_value}
use Rattle.qs_text.proofs.states.put_joined.Given as goal

abbrev pub invariant-loop-place : goal.invariant-loop-place
invariant-loop-place l =
    (l.out.items ≡ l.initial.out.items ++ texts_up_to l.place (spaced_value (values_of l.object.content)))
    × ((i : ℕ) → i < l.place → IsWord (get_or (values_of l.object.content) i (pos 0)))
