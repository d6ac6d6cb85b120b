use Rattle.qs_text.proofs.Parts.{last, then}
use Rattle.qs_svg.proofs.stretches.put_symbol.Goals as goal

pub returns : goal.returns
returns c =
    let path = rw c.kind_of_symbol.ensures.kind at c.in_ok-put_path.ensures.ok in
    let form = rw (c.form_of.ensures.form, c.is_query.ensures.query) at c.in_ok-put_word.ensures.ok in
    record {
      ok = last _ _ _ (then (then path form) (rw c.cross_of.ensures.cross at c.in_ok-put_word-2.ensures.ok))
          (last _ _ _ (then c.in_ok-put_word-3.ensures.ok c.in_ok-put_entry.ensures.ok) c.put_word-4.ensures.ok);
    }
