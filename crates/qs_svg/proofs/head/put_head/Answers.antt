use Rattle.qs_text.proofs.Parts.{last, then}
use Rattle.qs_svg.proofs.head.put_head.Goals as goal

pub returns : goal.returns
returns c =
    let size = rw (c.width_of.ensures.width, c.from-2.ensures, c.from.ensures, c.band_edge.ensures.edge, c.bands_of.ensures.bands, c.all_columns-columns.ensures.columns, c.clients.ensures.value) at c.in_ok-put_size.ensures.ok in
    let titled = then (then (then size c.in_ok-put_word.ensures.ok) c.in_ok-put_title.ensures.ok) c.in_ok-put_word-2.ensures.ok in
    record { ok = last _ _ _ (then (then (then titled c.in_ok-put_word-3.ensures.ok) c.in_ok-put_description.ensures.ok) c.in_ok-put_word-4.ensures.ok) c.put_style.ensures.ok }
