use Rattle.qs_svg.proofs.Parts.{drawn, last_shape, last_shapes}
use Rattle.qs_svg.proofs.stretches.put_request.Goals as goal

pub returns : goal.returns
returns c = record { ok = last_shapes _ _ _ (drawn c.in_ok-put_symbol.ensures.ok) (last_shape _ _ _ _ c.put_words.ensures.ok) }
