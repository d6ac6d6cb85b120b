-- The targets before this place are there.
use Rattle.std.proofs.Common.{decimal, get_or}
use Rattle.qs_text.specs.audit.Texts.{texts_up_to}
use Rattle.qs_text.specs.Texts.{Puts}
use Rattle.qs_json.specs.audit.Pieces.{element}
use Rattle.qs_json.proofs.graphs.put_targets.Given as goal

abbrev pub invariant-loop-place : goal.invariant-loop-place
invariant-loop-place l = Puts (texts_up_to l.place (element (λ i. decimal (get_or l.targets i 0)))) l.initial.out.items l.out.items
