use Rattle.qs_levels.proofs.Common.{◌≡◌, ◌++◌, ◌∷◌, [], Err, ap, subst, inl, inr, sym, ◌∙◌, refl, arith, true, false, length-append, block_next, drafted, each_snoc, rules}
use Rattle.qs_levels.proofs.Common.{err_from_is_err_and, goes_left, has_map, IsNext, Limit, row_of, rows_in, standing_with_block, StandingShape, tabled}
use Rattle.qs_outcomes.specs.Search.{IsNoted}
use Rattle.qs_levels.proofs.leading.lead_client.Goals as goal
use Rattle.qs_levels.proofs.leading.lead_client.Goals.{In_ok-put_next, In_ok-run_next, In_ok-write_next_row}

pub run_next-requires-clause-left : goal.run_next-requires-clause-left
run_next-requires-clause-left c = search (rules, goes_left)

pub write_next_row-requires-clause-left : goal.write_next_row-requires-clause-left
write_next_row-requires-clause-left c = search (rules, goes_left)

is_next : (c : In_ok-run_next) → IsNext c.args.step.now.search.program.now c.args.step.now.search.front.now c.args.source.now.standing.now c.args.client (standing_with_block c.args.source.now.standing.now c.args.client c.run_next.new.values c.run_next.new.left.items)
is_next c = block_next c.args.step.now.search.program.now c.args.step.now.search.front.now c.args.source.now.standing.now c.args.client _ _ c.requires.standing c.requires.client c.requires.goes c.in_ok-run_next.ensures.ran

row_is : (c : In_ok-write_next_row) → drafted c.write_next_row.new.scratch.row ≡ row_of c.args.step.now.search.program.now (standing_with_block c.args.source.now.standing.now c.args.client c.run_next.new.values c.run_next.new.left.items)
row_is c =
    c.in_ok-write_next_row.ensures.row

there : (c : In_ok-put_next) → c.put_next.new.next ≡ standing_with_block c.args.source.now.standing.now c.args.client c.run_next.new.values c.run_next.new.left.items
there c =
    let s = c.args.source.now.standing.now in
    let client = c.args.client in
    c.in_ok-put_next.ensures.next
    ∙ (ap (λ v. standing_with_block s client v c.write_next_row.new.scratch.left.items) c.write_next_row.ensures.values
    ∙ ap (λ xs. standing_with_block s client c.run_next.new.values xs) (ap (λ (l : _). l.items) c.write_next_row.ensures.left))

pub returns-then-was_seen-clause-led : goal.returns-then-was_seen-clause-led
returns-then-was_seen-clause-led c =
    let row = row_is (goal.at.returns-then-was_seen-clause-led c).In_ok-write_next_row in (
      _,
      is_next (goal.at.returns-then-was_seen-clause-led c).In_ok-run_next,
      inr (has_map (λ r (e : drafted c.write_next_row.new.scratch.row ≡ r). sym row ∙ e) (rows_in c.args.table.now.rows.keys) (c.was_seen.ensures.seen c.if-was_seen.true), refl),
    )

pub returns-in_err-note-clause-limit : goal.returns-in_err-note-clause-limit
returns-in_err-note-clause-limit c = λ is.
    let row = row_is (goal.at.returns-in_err-note-clause-limit c).In_ok-write_next_row in
    let next = is_next (goal.at.returns-in_err-note-clause-limit c).In_ok-run_next in
    let p = err_from_is_err_and c.from_residual-in_err-note.result c.from_residual-in_err-note.ensures.1 in
    let full = c.in_err-note.ensures.full (cc (p.1, p.2)) in (
      _,
      (_, next, inl ((λ h. full.1 (has_map (λ r e. row ∙ e) (rows_in c.args.table.now.rows.keys) h)), 0, refl)),
      length-append (rows_in c.args.table.now.rows.keys) (_ ∷ []) ∙ omega (arith, full.0),
    )

pub returns-then-not-branch-clause-led : goal.returns-then-not-branch-clause-led
returns-then-not-branch-clause-led c =
    let row = row_is (goal.at.returns-then-not-branch-clause-led c).In_ok-write_next_row in
    let rows = rows_in c.args.table.now.rows.keys in
    let noted = rw c.if-not-branch.true at c.in_ok-note.ensures.noted in (
      _,
      is_next (goal.at.returns-then-not-branch-clause-led c).In_ok-run_next,
      inr (
        has_map (λ r (e : drafted c.write_next_row.new.scratch.row ≡ r). sym row ∙ e) rows noted.0.1,
        λ i. record { rows = noted.0.0 i; found = (tabled c.args.table.now).found },
      ),
    )

pub put_next-requires-clause-left : goal.put_next-requires-clause-left
put_next-requires-clause-left c = search (rules, goes_left)

pub returns-clause-led : goal.returns-clause-led
returns-clause-led c =
    let row = row_is (goal.at.returns-clause-led c).In_ok-write_next_row in
    let rows = rows_in c.args.table.now.rows.keys in
    let noted = rw c.if-not-branch.false at c.in_ok-note.ensures.noted in (
      _,
      is_next (goal.at.returns-clause-led c).In_ok-run_next,
      inl (
        (λ h. noted.0.1 (has_map (λ r e. row ∙ e) rows h)),
        c.goes_on_next-going.result,
        λ i. record {
          rows = (ap rows_in (ap (λ (m : _). m.keys) c.in_ok-add_found.ensures.rows) ∙ (noted.0.0 ∙ ap (λ r. rows ++ r ∷ []) row)) i;
          found = (c.in_ok-add_found.ensures.added
              ∙ ap (λ (n : StandingShape). (tabled c.args.table.now).found ++ record { lead = record { source = c.args.source.now.place; client = c.args.client }; standing = n; going = c.goes_on_next-going.result } ∷ []) (there (goal.at.returns-clause-led c).In_ok-put_next)) i;
        },
      ),
    )

pub goes_on_next-going-requires-clause-next : goal.goes_on_next-going-requires-clause-next
goes_on_next-going-requires-clause-next c = let at = goal.at.goes_on_next-going-requires-clause-next c in rw (there at.In_ok-put_next) (is_next at.In_ok-run_next)

pub returns-clause-known : goal.returns-clause-known
returns-clause-known c = search (rules, each_snoc)
