use Rattle.qs_svg.proofs.Parts.{and_then, drawn, last_shapes}
use Rattle.qs_svg.proofs.run.put_legend.Goals as goal

pub returns : goal.returns
returns c =
    let begun = and_then (drawn c.in_ok-put_word.ensures.ok) (drawn c.in_ok-put_heading.ensures.ok) in
    record { ok = last_shapes _ _ _ (and_then begun c.in_ok-put_clients.ensures.ok) c.put_signs.ensures.ok }
