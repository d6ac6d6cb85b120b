use Rattle.std.proofs.Common.{◌≡◌, List, [], length, replicate, sym, ap, ◌∙◌, subst, arith}
use Rattle.std.proofs.lemmas.List.{length-replicate}
use Rattle.qs_objects.specs.Rows.{RowsState, rows_state}
use Rattle.qs_objects.specs.Sums.{total}
use Rattle.qs_objects.specs.Traces.{HaveRoom, rooms_left, with_rooms}
use Rattle.qs_objects.proofs.TraceRows.{fresh_left, fresh_rooms}
use Rattle.qs_objects.specs.declared.held.Event.{Event}
use Rattle.qs_objects.proofs.traces.Traces.new.Goals as goal

pub returns-clause-fresh : goal.returns-clause-fresh
returns-clause-fresh c = ap (λ (s : RowsState Event). with_rooms s.rows c.args.rooms.items) c.in_ok-rows.ensures.fresh
    ∙ (ap (λ n. with_rooms (replicate n []) c.args.rooms.items) (c.len.ensures ∙ c.args.rooms.ok.0) ∙ fresh_rooms c.args.rooms.items)

pub invariant_of-result : goal.invariant_of-result
invariant_of-result c =
    let rooms = c.args.rooms.items in
    let rows : c.in_ok-rows.rows ≡ rows_state (replicate (length rooms) []) c.args.room =
    c.in_ok-rows.ensures.fresh ∙ ap (λ n. rows_state (replicate n []) c.args.room) (c.len.ensures ∙ c.args.rooms.ok.0) in
    let left = ap (λ ts. total (rooms_left ts)) (fresh_rooms rooms) ∙ ap total (fresh_left rooms) ∙ c.requires.whole in
    subst (λ (r : RowsState Event). HaveRoom r.rows rooms r.room) (sym rows)
    (record { many = sym (length-replicate {A = List Event} (length rooms) []); whole = omega (arith, left) })
