use Rattle.std.proofs.Common.{◌≡◌, ◌<◌, ℕ, ◌==◌, suc, if◌then◌else◌, List, [], length, get_or, set, sym, ap, ◌∙◌, subst, arith}
use Rattle.qs_objects.specs.Rows.{RowsState}
use Rattle.qs_sync_counts.specs.audit.SyncRows.{count_of, one_more, sync_count}
use Rattle.qs_sync_counts.specs.SyncRows.{AreAlike, CountsState, counts_state, greatest_count, with_counts}
use Rattle.qs_sync_counts.specs.declared.sync_counts.SyncCount.{SyncCount}
use Rattle.qs_sync_counts.proofs.CountRows.{have_at, have_set, length_counts, length_paired, length_rows, paired_at, row_at, rows_set}
use Rattle.qs_sync_counts.proofs.sync_counts.SyncCounts.add_at.Goals as goal

pub of-requires : goal.of-requires
of-requires c =
    let many = length_rows c.self.inside.objects.rows c.self.inside.counts.rows c.self.invariant.each in
    let counts = length_counts c.self.inside.objects.rows c.self.inside.counts.rows c.self.invariant.each in
    record { row = omega (arith, many, subst (λ (s : CountsState). c.args.block < length s.rows) (sym c.self.view_is) c.requires.block) }

pub of-requires-2 : goal.of-requires-2
of-requires-2 c =
    let many = length_rows c.self.inside.objects.rows c.self.inside.counts.rows c.self.invariant.each in
    let given = subst (λ (s : CountsState). c.args.block < length s.rows) (sym c.self.view_is) c.requires.block in
    record { row = omega (arith, many, length_counts c.self.inside.objects.rows c.self.inside.counts.rows c.self.invariant.each, given) }

pub next_count-count-requires : goal.next_count-count-requires
next_count-count-requires c =
    let row = row_at c.self.inside.objects.rows c.self.inside.counts.rows c.args.block c.self.invariant.each in
    let same = have_at c.self.inside.objects.rows c.self.inside.counts.rows c.args.block c.self.invariant.each in
    let long = length_paired (get_or c.self.inside.objects.rows c.args.block []) (get_or c.self.inside.counts.rows c.args.block []) same in
    let whole = ap (λ (xs : List SyncCount). length xs) row in
    let place = subst (λ (s : CountsState). c.args.place < length (get_or s.rows c.args.block [])) (sym c.self.view_is) c.requires.place in
    let objects = ap (λ (xs : List ℕ). length xs) c.of.ensures.value in
    let counts = ap (λ (xs : List ℕ). length xs) c.of-2.ensures.value in
    let few : count_of (get_or (get_or (with_counts c.self.inside.objects.rows c.self.inside.counts.rows) c.args.block []) c.args.place (sync_count 0 0)) < greatest_count =
    subst (λ (s : CountsState). count_of (get_or (get_or s.rows c.args.block []) c.args.place (sync_count 0 0)) < greatest_count) (sym c.self.view_is) c.requires.few in
    let pair = ap (λ (xs : List SyncCount). get_or xs c.args.place (sync_count 0 0)) row ∙ paired_at (get_or c.self.inside.objects.rows c.args.block []) (get_or c.self.inside.counts.rows c.args.block []) c.args.place same in
    let count = ap count_of pair in
    record {
      object = omega (arith, place, whole, long, objects);
      count = omega (arith, place, whole, long, same, counts);
      few = omega (arith, few, count, ap (λ (xs : List ℕ). get_or xs c.args.place 0) c.of-2.ensures.value);
    }

pub set-requires : goal.set-requires
set-requires c =
    let many = length_rows c.self.inside.objects.rows c.self.inside.counts.rows c.self.invariant.each in
    let counts = length_counts c.self.inside.objects.rows c.self.inside.counts.rows c.self.invariant.each in
    let given = subst (λ (s : CountsState). c.args.block < length s.rows) (sym c.self.view_is) c.requires.block in
    let row = row_at c.self.inside.objects.rows c.self.inside.counts.rows c.args.block c.self.invariant.each in
    let same = have_at c.self.inside.objects.rows c.self.inside.counts.rows c.args.block c.self.invariant.each in
    let long = length_paired (get_or c.self.inside.objects.rows c.args.block []) (get_or c.self.inside.counts.rows c.args.block []) same in
    let place = subst (λ (s : CountsState). c.args.place < length (get_or s.rows c.args.block [])) (sym c.self.view_is) c.requires.place in
    record { row = omega (arith, many, counts, given); place = omega (arith, place, ap (λ (xs : List SyncCount). length xs) row, long, same) }

pub invariant_of-self : goal.invariant_of-self
invariant_of-self c =
    subst (AreAlike c.self.inside.objects) (sym c.set.ensures.value)
    (record { each = have_set c.self.inside.objects.rows c.self.inside.counts.rows c.args.block c.args.place _ c.self.invariant.each; room = c.self.invariant.room })

pub returns : goal.returns
returns c =
    let row = row_at c.self.inside.objects.rows c.self.inside.counts.rows c.args.block c.self.invariant.each in
    let same = have_at c.self.inside.objects.rows c.self.inside.counts.rows c.args.block c.self.invariant.each in
    let long = length_paired (get_or c.self.inside.objects.rows c.args.block []) (get_or c.self.inside.counts.rows c.args.block []) same in
    let whole = ap (λ (xs : List SyncCount). length xs) row in
    let place = subst (λ (s : CountsState). c.args.place < length (get_or s.rows c.args.block [])) (sym c.self.view_is) c.requires.place in
    let pair = ap (λ (xs : List SyncCount). get_or xs c.args.place (sync_count 0 0)) row ∙ paired_at (get_or c.self.inside.objects.rows c.args.block []) (get_or c.self.inside.counts.rows c.args.block []) c.args.place same in
    let next : sync_count (get_or (get_or c.self.inside.objects.rows c.args.block []) c.args.place 0) c.next_count-count.result
    ≡ one_more c.args.object (get_or (get_or (with_counts c.self.inside.objects.rows c.self.inside.counts.rows) c.args.block []) c.args.place (sync_count 0 0)) =
    ap (sync_count (get_or (get_or c.self.inside.objects.rows c.args.block []) c.args.place 0)) c.next_count-count.ensures.value
    ∙ ((λ i. sync_count (get_or (get_or c.self.inside.objects.rows c.args.block []) c.args.place 0)
    (if get_or (c.of.ensures.value i) c.args.place 0 == c.args.object then suc (get_or (c.of-2.ensures.value i) c.args.place 0) else get_or (c.of-2.ensures.value i) c.args.place 0))
    ∙ ap (one_more c.args.object) (sym pair)) in
    record {
      added = ap (λ (s : RowsState ℕ). counts_state (with_counts c.self.inside.objects.rows s.rows) c.self.inside.objects.room) c.set.ensures.value
          ∙ (ap (λ rows. counts_state rows c.self.inside.objects.room) (rows_set c.self.inside.objects.rows c.self.inside.counts.rows c.args.block c.args.place c.next_count-count.result c.self.invariant.each)
          ∙ (ap (λ x. counts_state (set (with_counts c.self.inside.objects.rows c.self.inside.counts.rows) c.args.block (set (get_or (with_counts c.self.inside.objects.rows c.self.inside.counts.rows) c.args.block []) c.args.place x)) c.self.inside.objects.room) next
          ∙ ap (λ (s : CountsState). counts_state (set s.rows c.args.block (set (get_or s.rows c.args.block []) c.args.place
          (one_more c.args.object (get_or (get_or s.rows c.args.block []) c.args.place (sync_count 0 0))))) s.room) c.self.view_is));
    }
