use Rattle.std.proofs.Common.{rules, w64}
use Rattle.std.proofs.lemmas.Int.{to_z-of_z}
use Rattle.qs_text.proofs.Parts.{last, then}
use Rattle.qs_json.proofs.states.put_content.Goals as goal

pub returns-in_ok-put_integer-in-Buffer-clause-ok : goal.returns-in_ok-put_integer-in-Buffer-clause-ok
returns-in_ok-put_integer-in-Buffer-clause-ok c = rw (← c.in-Buffer.ensures.kind)
    (last _ _ _ (rw (to_z-of_z w64 c.in-Buffer.capacity (search rules)) at c.in_ok-put_integer-in-Buffer.ensures.ok) c.put_values.ensures.ok)

pub returns-in_ok-put_integer-in-Grid-2-clause-ok : goal.returns-in_ok-put_integer-in-Grid-2-clause-ok
returns-in_ok-put_integer-in-Grid-2-clause-ok c =
    rw (← c.in-Grid.ensures.kind)
    (last _ _ _ (then (rw (to_z-of_z w64 c.in-Grid.rows (search rules)) at c.in_ok-put_integer-in-Grid.ensures.ok)
    (rw (to_z-of_z w64 c.in-Grid.columns (search rules)) at c.in_ok-put_integer-in-Grid-2.ensures.ok)) c.put_values-in-Grid.ensures.ok)
