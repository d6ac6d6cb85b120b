use Rattle.std.proofs.Common.{◌≡◌, ℕ, true, Some, List, slice_get, sym, ap, ◌∙◌, option_map}
use Rattle.qs_tally.proofs.Common.{equal, rows_in, shape_of, slice_get-map}
use Rattle.qs_standings.specs.declared.rows.Row.{Row}
use Rattle.qs_standings.proofs.Inserting.{inserted, tells}
use Rattle.qs_tally.proofs.count.look_up.Goals as goal

row_at : (row : Row) (keys : List Row) (i : ℕ) (k : Row) → slice_get keys i ≡ Some k → equal (shape_of row) (shape_of k) ≡ true → slice_get (rows_in keys) i ≡ Some (shape_of row)
row_at row keys i k at same = slice_get-map shape_of keys i ∙ ap (option_map shape_of) at ∙ ap (λ r. Some r) (sym (tells (shape_of row) (shape_of k) same))

pub returns : goal.returns
returns c = record {
  inserted = inserted c.args.row c.args.rows.now.keys c.insert_full.new.self.keys c.in-Ok.found.1 c.in-Ok.ensures.added c.in-Ok.ensures.keys;
  place = row_at c.args.row c.insert_full.new.self.keys c.in-Ok.found.0 c.in-Ok.ensures.stored.0 c.in-Ok.ensures.stored.1 c.in-Ok.ensures.stored.2;
}
