use Rattle.std.proofs.Common.{◌<◌, ◌∙◌, [], ap, ap₂, arith, get_or, length, slice_index_or}
use Rattle.std.proofs.lemmas.List.{get_or-map, length-map}
use Rattle.qs_sync_counts.specs.audit.SyncRows.{count_of, object_of, sync_count}
use Rattle.qs_json.specs.audit.RunJson.{sync_json}
use Rattle.qs_json.proofs.Elements.{all_elements, one_element_more}
use Rattle.qs_text.proofs.Parts.{named}
use Rattle.qs_json.proofs.runs.put_joined.Goals as goal

pub loop-number-preserved : goal.loop-number-preserved
loop-number-preserved c =
    let p = c.args.program.now in
    let rows = slice_index_or c.args.played.now.sync_counts c.args.place [] in
    let none = sync_count 0 0 in
    let n = c.loop-number.number in
    let objects = c.sync_objects-objects.ensures.value in
    let inside : n < length rows = omega (arith, c.loop-number-test.true, ap length objects, length-map rows object_of) in
    let object = ap (λ l. get_or l n 0) objects ∙ get_or-map object_of rows n none 0 inside in
    let count = c.count_at.ensures.count ∙ ap (λ l. get_or l n 0) c.sync_counts-counts.ensures.value ∙ get_or-map count_of rows n none 0 inside in
    one_element_more (λ i. sync_json p (get_or rows i none)) n c.loop-number.invariant c.in_ok-put_comma.ensures.ok
    (named (ap₂ (λ o k. sync_json p (sync_count o k)) object count) c.in_ok-put_sync.ensures.ok)

pub returns : goal.returns
returns c =
    let rows = slice_index_or c.args.played.now.sync_counts c.args.place [] in
    let objects = c.sync_objects-objects.ensures.value in
    record {
      ok = all_elements (sync_json c.args.program.now) (sync_count 0 0) rows c.loop-number.number (omega (arith, ap length objects, length-map rows object_of))
          c.loop-number.invariant;
    }
