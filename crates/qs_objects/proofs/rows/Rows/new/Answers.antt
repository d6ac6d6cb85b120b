use Rattle.std.proofs.Common.{◌≡◌, ◌-◌, [], length, replicate, refl, sym, ap, ◌∙◌, subst, arith, vec_capacity}
use Rattle.qs_objects.specs.Rows.{room_left, rows_of_lengths, rows_state, FillList}
use Rattle.qs_objects.proofs.Cuts.{cut_empty, total_replicate, zero_starts}
use Rattle.qs_objects.proofs.rows.Rows.new.Goals as goal

pub invariant_of-result : goal.invariant_of-result
invariant_of-result g c =
    let starts : c.in_ok-starts.starts.items ≡ replicate c.args.rows 0 = c.in_ok-starts.ensures.value in
    let lengths : c.in_ok-lengths.lengths.items ≡ replicate c.args.rows 0 = c.in_ok-lengths.ensures.value in
    let none : length c.in_ok-items.items.items ≡ 0 = ap length c.in_ok-items.ensures.items in
    let zeros = total_replicate c.args.rows in
    let wide = c.in_ok-items.ensures.capacity in
    let left = room_left c.args.room c.in_ok-items.items.items in
    subst (λ ss. FillList ss c.in_ok-lengths.lengths.items (length c.in_ok-items.items.items) left (vec_capacity c.in_ok-items.items)) (sym starts)
    (subst (λ ns. FillList (replicate c.args.rows 0) ns (length c.in_ok-items.items.items) left (vec_capacity c.in_ok-items.items)) (sym lengths)
    (record { whole = omega (arith, zeros, none); fits = omega (arith, wide, none); many = refl; begin = zero_starts c.args.rows }))

pub returns-clause-fresh : goal.returns-clause-fresh
returns-clause-fresh g c = ap (λ ns. rows_state (rows_of_lengths ns c.in_ok-items.items.items) (room_left c.args.room c.in_ok-items.items.items)) c.in_ok-lengths.ensures.value
    ∙ (ap (λ xs. rows_state (rows_of_lengths (replicate c.args.rows 0) xs) (room_left c.args.room xs)) c.in_ok-items.ensures.items
    ∙ (ap (rows_state (rows_of_lengths (replicate c.args.rows 0) [])) (let all : c.args.room - 0 ≡ c.args.room = omega arith in all)
    ∙ ap (λ rows. rows_state rows c.args.room) (cut_empty {X = g.row.T.Denot} c.args.rows)))
