use Rattle.std.proofs.Common.{◌≡◌, ◌∙◌, ◌<◌, ◌+ℤ◌, None, Some, length, if◌then◌else◌, pos, rules, FitsSigned, w64}
use Rattle.std.proofs.lemmas.List.{get_or_default}
use Rattle.std.proofs.lemmas.Int.{to_z-of_z}
use Rattle.qs_objects.specs.audit.Act.{clamp_to_word, outside}
use Rattle.qs_objects.specs.Objects.{grid_state, place}
use Rattle.qs_objects.proofs.GridRows.{cell_added, picked}
use Rattle.qs_objects.proofs.grid.add_cell.Goals as goal

pub returns-clause-acts : goal.returns-clause-acts
returns-clause-acts c =
    let a = c.args in
    let given : (if outside a.rows a.columns a.row a.column then None else Some (place a.columns a.row a.column)) ≡ Some c.in-Some.place = search rules in
    let at = picked (outside a.rows a.columns a.row a.column) (place a.columns a.row a.column) c.in-Some.place given in
    let within : c.in-Some.place < length a.cells.now.items = search rules in
    let value = c.index_mut.ensures.value ∙ get_or_default a.cells.now.items c.in-Some.place c.index_mut.result.now (pos 0) within in
    let fits : FitsSigned w64 a.n = search rules in
    cell_added (grid_state a.rows a.columns a.cells.now.items a.refused.now) a.rows a.columns a.cells.now.items a.row a.column a.n c.add.new.cell c.in-Some.place at.0 at.1 (c.add.ensures.sum ∙ (λ i. clamp_to_word (value i +ℤ to_z-of_z w64 a.n fits i)))
