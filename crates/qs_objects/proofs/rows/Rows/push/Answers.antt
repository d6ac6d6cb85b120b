use Rattle.std.proofs.Common.{◌≡◌, ℕ, ◌<◌, ◌+◌, ◌-◌, List, [], ◌∷◌, ◌++◌, length, get_or, set, refl, sym, ap, ◌∙◌, subst, arith, vec_capacity}
use Rattle.std.proofs.lemmas.List.{get_or_default, length-append}
use Rattle.qs_objects.specs.Rows.{IsLast, RowsState, room_left, rows_of_lengths, rows_state, FillList}
use Rattle.qs_objects.proofs.Cuts.{fill_push, row_inside, row_within, rows_push, start_inside}
use Rattle.qs_objects.proofs.rows.Rows.push.Goals as goal

pub index-count-requires : goal.index-count-requires
index-count-requires g c =
    let own = row_inside _ _ _ _ _ c.self.invariant c.args.row (subst (λ (s : RowsState g.row.T.Denot). c.args.row < length s.rows) (sym c.self.view_is) c.requires.row) in
    omega (arith, own, c.self.inside.lengths.ok.0)

pub overflow_sub-len : goal.overflow_sub-len
overflow_sub-len g c =
    let row = (subst (λ (s : RowsState g.row.T.Denot). c.args.row < length s.rows) (sym c.self.view_is) c.requires.row) in
    let count = c.index-count.ensures ∙ get_or_default _ c.args.row _ 0 (row_inside _ _ _ _ _ c.self.invariant c.args.row row) in
    omega (arith, row_within _ _ _ _ _ c.self.invariant c.args.row _ _ row refl count, c.self.inside.items.ok.0, c.len.ensures)

pub index_mut-requires : goal.index_mut-requires
index_mut-requires g c =
    let own = start_inside _ _ _ _ _ c.self.invariant c.args.row (subst (λ (s : RowsState g.row.T.Denot). c.args.row < length s.rows) (sym c.self.view_is) c.requires.row) in
    omega (arith, own, c.self.inside.starts.ok.0)

pub overflow_add-count : goal.overflow_add-count
overflow_add-count g c =
    let row = (subst (λ (s : RowsState g.row.T.Denot). c.args.row < length s.rows) (sym c.self.view_is) c.requires.row) in
    let count = c.index-count.ensures ∙ get_or_default _ c.args.row _ 0 (row_inside _ _ _ _ _ c.self.invariant c.args.row row) in
    let within = row_within _ _ _ _ _ c.self.invariant c.args.row _ _ row refl count in
    omega (arith, within, c.self.inside.items.ok.0, c.self.inside.items.ok.1, c.self.inside.items.small)

pub index_mut-requires-2 : goal.index_mut-requires-2
index_mut-requires-2 g c =
    let own = row_inside _ _ _ _ _ c.self.invariant c.args.row (subst (λ (s : RowsState g.row.T.Denot). c.args.row < length s.rows) (sym c.self.view_is) c.requires.row) in
    omega (arith, own, c.self.inside.lengths.ok.0)

-- with a value more there is room for one less
one_less : {X : Type 0} (room : ℕ) (xs : List X) (x : X) → room_left room xs - 1 ≡ room_left room (xs ++ x ∷ [])
one_less room xs x = let long = length-append xs (x ∷ []) in omega (arith, long)

pub invariant_of-self : goal.invariant_of-self
invariant_of-self g c =
    let row = (subst (λ (s : RowsState g.row.T.Denot). c.args.row < length s.rows) (sym c.self.view_is) c.requires.row) in
    let count = c.index-count.ensures ∙ get_or_default _ c.args.row _ 0 (row_inside _ _ _ _ _ c.self.invariant c.args.row row) in
    let last : IsLast (rows_of_lengths c.self.inside.lengths.items c.self.inside.items.items) c.args.row =
    subst (λ (s : RowsState g.row.T.Denot). IsLast s.rows c.args.row) (sym c.self.view_is) c.requires.last in
    let old = c.self.inside.items.items in
    let room : 0 < room_left c.self.inside.room old = subst (λ (s : RowsState g.row.T.Denot). 0 < s.room) (sym c.self.view_is) c.requires.room in
    let starts = set c.self.inside.starts.items c.args.row (c.len.result - c.index-count.result.now) in
    let lengths = set c.self.inside.lengths.items c.args.row (c.index-count.result.now + 1) in
    let new = old ++ c.args.item ∷ [] in
    subst (λ n. FillList starts lengths (length c.push_reserved.new.self.items) (room_left c.self.inside.room c.push_reserved.new.self.items) n)
    (sym c.push_reserved.ensures.capacity)
    (subst (λ (xs : List g.row.T.Denot). FillList starts lengths (length xs) (room_left c.self.inside.room xs) (vec_capacity c.self.inside.items))
    (sym c.push_reserved.ensures.items)
    (subst (λ n. FillList starts lengths (length new) n (vec_capacity c.self.inside.items)) (one_less c.self.inside.room old c.args.item)
    (fill_push _ _ _ _ _ c.self.invariant c.args.row c.args.item row last room _ _ count (c.len.ensures ∙ c.self.inside.items.ok.0))))

pub returns : goal.returns
returns g c =
    let row = (subst (λ (s : RowsState g.row.T.Denot). c.args.row < length s.rows) (sym c.self.view_is) c.requires.row) in
    let count = c.index-count.ensures ∙ get_or_default _ c.args.row _ 0 (row_inside _ _ _ _ _ c.self.invariant c.args.row row) in
    let last : IsLast (rows_of_lengths c.self.inside.lengths.items c.self.inside.items.items) c.args.row =
    subst (λ (s : RowsState g.row.T.Denot). IsLast s.rows c.args.row) (sym c.self.view_is) c.requires.last in
    let old = c.self.inside.items.items in
    let room : 0 < room_left c.self.inside.room old = subst (λ (s : RowsState g.row.T.Denot). 0 < s.room) (sym c.self.view_is) c.requires.room in
    let lengths = set c.self.inside.lengths.items c.args.row (c.index-count.result.now + 1) in
    record {
      pushed = ap (λ xs. rows_state (rows_of_lengths lengths xs) (room_left c.self.inside.room xs)) c.push_reserved.ensures.items
          ∙ (ap (λ n. rows_state (rows_of_lengths lengths (old ++ c.args.item ∷ [])) n) (sym (one_less c.self.inside.room old c.args.item))
          ∙ (ap (λ rows. rows_state rows (room_left c.self.inside.room old - 1))
          (rows_push _ _ _ _ _ c.self.invariant c.args.row c.args.item row last room _ count)
          ∙ ap (λ (s : RowsState g.row.T.Denot). rows_state (set s.rows c.args.row (get_or s.rows c.args.row [] ++ c.args.item ∷ [])) (s.room - 1)) c.self.view_is));
    }
