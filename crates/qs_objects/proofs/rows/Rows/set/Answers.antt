use Rattle.std.proofs.Common.{◌<◌, ◌+◌, ◌-◌, [], length, get_or, set, sym, ap, ◌∙◌, subst, arith}
use Rattle.std.proofs.lemmas.List.{get_or_default, length-set}
use Rattle.qs_objects.specs.Rows.{RowsState, room_left, rows_of_lengths, rows_state}
use Rattle.qs_objects.proofs.Cuts.{place_within, rows_set, start_inside}
use Rattle.qs_objects.proofs.rows.Rows.set.Goals as goal

pub index-start-requires : goal.index-start-requires
index-start-requires g c =
    let own = start_inside _ _ _ _ _ c.self.invariant c.args.row (subst (λ (s : RowsState g.row.T.Denot). c.args.row < length s.rows) (sym c.self.view_is) c.requires.row) in
    omega (arith, own, c.self.inside.starts.ok.0)

pub overflow_add-start : goal.overflow_add-start
overflow_add-start g c =
    let row = (subst (λ (s : RowsState g.row.T.Denot). c.args.row < length s.rows) (sym c.self.view_is) c.requires.row) in
    let start = c.index-start.ensures ∙ get_or_default _ c.args.row _ 0 (start_inside _ _ _ _ _ c.self.invariant c.args.row row) in
    let place = subst (λ (s : RowsState g.row.T.Denot). c.args.place < length (get_or s.rows c.args.row [])) (sym c.self.view_is) c.requires.place in
    let within = place_within _ _ _ _ _ c.self.invariant c.args.row c.args.place _ c.args.item row place start in
    omega (arith, within, c.self.inside.items.ok.0, c.self.inside.items.ok.1, c.self.inside.items.small)

pub index_mut-requires : goal.index_mut-requires
index_mut-requires g c =
    let row = (subst (λ (s : RowsState g.row.T.Denot). c.args.row < length s.rows) (sym c.self.view_is) c.requires.row) in
    let start = c.index-start.ensures ∙ get_or_default _ c.args.row _ 0 (start_inside _ _ _ _ _ c.self.invariant c.args.row row) in
    let place = subst (λ (s : RowsState g.row.T.Denot). c.args.place < length (get_or s.rows c.args.row [])) (sym c.self.view_is) c.requires.place in
    omega (arith, place_within _ _ _ _ _ c.self.invariant c.args.row c.args.place _ c.args.item row place start, c.self.inside.items.ok.0)

pub returns : goal.returns
returns g c =
    let row = (subst (λ (s : RowsState g.row.T.Denot). c.args.row < length s.rows) (sym c.self.view_is) c.requires.row) in
    let start = c.index-start.ensures ∙ get_or_default _ c.args.row _ 0 (start_inside _ _ _ _ _ c.self.invariant c.args.row row) in
    let place = subst (λ (s : RowsState g.row.T.Denot). c.args.place < length (get_or s.rows c.args.row [])) (sym c.self.view_is) c.requires.place in
    record {
      value = ap (λ n. rows_state (rows_of_lengths c.self.inside.lengths.items (set c.self.inside.items.items (c.index-start.result.now + c.args.place) c.args.item)) (c.self.inside.room - n))
          (length-set c.self.inside.items.items (c.index-start.result.now + c.args.place) c.args.item)
          ∙ ap (λ rows. rows_state rows (room_left c.self.inside.room c.self.inside.items.items)) (rows_set _ _ _ _ _ c.self.invariant c.args.row c.args.place _ c.args.item row place start)
          ∙ ap (λ (s : RowsState g.row.T.Denot). rows_state (set s.rows c.args.row (set (get_or s.rows c.args.row []) c.args.place c.args.item)) s.room) c.self.view_is;
    }
