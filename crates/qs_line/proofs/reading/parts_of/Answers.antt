use Rattle.std.proofs.Common.{◌∙◌, ◌+◌, [], map, drop, get_or, sym, ap}
use Rattle.std.proofs.lemmas.List.{drop_more}
use Rattle.qs_line.specs.audit.Parts.{part_in}
use Rattle.qs_line.proofs.PartLists.{read_with, read_with-none, read_with-some}
use Rattle.qs_line.proofs.reading.parts_of.Goals as goal

pub returns-in-None : goal.returns-in-None
returns-in-None c =
    let parts = c.loop-part.parts.items in
    let items = c.deref-part-items.result.now in
    let part = get_or items c.loop-part.part-index (record { ref_ptr = (0, 0); now = [] }) in
    let rest = map (λ part. part.now) (drop (c.loop-part.part-index + 1) items) in
    let next = drop_more items c.loop-part.part-index (record { ref_ptr = (0, 0); now = [] }) c.loop-part-test.true in
    let none = ap part_in (sym c.as_bytes.ensures.value) ∙ sym c.part_of.ensures.part ∙ c.in-None.is in
    record {
      parts = sym (c.loop-part.invariant ∙ ap (λ left. read_with part_in parts (map (λ part. part.now) left)) next ∙ read_with-none part_in parts part.now rest none);
    }

pub loop-part-preserved : goal.loop-part-preserved
loop-part-preserved c =
    let parts = c.loop-part.parts.items in
    let items = c.deref-part-items.result.now in
    let part = get_or items c.loop-part.part-index (record { ref_ptr = (0, 0); now = [] }) in
    let rest = map (λ part. part.now) (drop (c.loop-part.part-index + 1) items) in
    let next = drop_more items c.loop-part.part-index (record { ref_ptr = (0, 0); now = [] }) c.loop-part-test.true in
    let some = ap part_in (sym c.as_bytes.ensures.value) ∙ sym c.part_of.ensures.part ∙ c.in-Some.is in
    c.loop-part.invariant ∙ ap (λ left. read_with part_in parts (map (λ part. part.now) left)) next ∙ read_with-some part_in parts c.in-Some.part part.now rest some
    ∙ ap (λ now. read_with part_in now rest) (sym c.in_ok-push-in-Some.ensures.items)
