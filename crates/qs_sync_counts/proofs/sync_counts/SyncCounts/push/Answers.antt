use Rattle.std.proofs.Common.{◌<◌, ℕ, ◌-◌, [], ◌∷◌, ◌++◌, length, get_or, set, sym, ap, ◌∙◌, subst, arith}
use Rattle.qs_objects.specs.Rows.{IsLast, RowsState, rows_state}
use Rattle.qs_sync_counts.specs.audit.SyncRows.{sync_count}
use Rattle.qs_sync_counts.specs.SyncRows.{AreAlike, CountsState, counts_state, with_counts}
use Rattle.qs_sync_counts.proofs.CountRows.{empty_rows, have_push, length_counts, length_rows, rows_push}
use Rattle.qs_sync_counts.proofs.sync_counts.SyncCounts.push.Goals as goal

pub push-requires-clause-row : goal.push-requires-clause-row
push-requires-clause-row c =
    let many = length_rows c.self.inside.objects.rows c.self.inside.counts.rows c.self.invariant.each in
    let counts = length_counts c.self.inside.objects.rows c.self.inside.counts.rows c.self.invariant.each in
    omega (arith, many, subst (λ (s : CountsState). c.args.block < length s.rows) (sym c.self.view_is) c.requires.block)

pub push-requires-clause-last : goal.push-requires-clause-last
push-requires-clause-last c =
    let last : IsLast (with_counts c.self.inside.objects.rows c.self.inside.counts.rows) c.args.block = subst (λ (s : CountsState). IsLast s.rows c.args.block) (sym c.self.view_is) c.requires.last in
    λ j after. (empty_rows c.self.inside.objects.rows c.self.inside.counts.rows j c.self.invariant.each (last j after)).0

pub push-requires-2-clause-row : goal.push-requires-2-clause-row
push-requires-2-clause-row c =
    let many = length_rows c.self.inside.objects.rows c.self.inside.counts.rows c.self.invariant.each in
    let given = subst (λ (s : CountsState). c.args.block < length s.rows) (sym c.self.view_is) c.requires.block in
    omega (arith, many, length_counts c.self.inside.objects.rows c.self.inside.counts.rows c.self.invariant.each, given)

pub push-requires-2-clause-last : goal.push-requires-2-clause-last
push-requires-2-clause-last c =
    let last : IsLast (with_counts c.self.inside.objects.rows c.self.inside.counts.rows) c.args.block = subst (λ (s : CountsState). IsLast s.rows c.args.block) (sym c.self.view_is) c.requires.last in
    λ j after. (empty_rows c.self.inside.objects.rows c.self.inside.counts.rows j c.self.invariant.each (last j after)).1

pub invariant_of-self : goal.invariant_of-self
invariant_of-self c =
    let many = length_rows c.self.inside.objects.rows c.self.inside.counts.rows c.self.invariant.each in
    let counts = length_counts c.self.inside.objects.rows c.self.inside.counts.rows c.self.invariant.each in
    let given = subst (λ (s : CountsState). c.args.block < length s.rows) (sym c.self.view_is) c.requires.block in
    subst (λ s. AreAlike s c.push-2.new.self) (sym c.push.ensures.pushed)
    (subst (AreAlike (rows_state (set c.self.inside.objects.rows c.args.block (get_or c.self.inside.objects.rows c.args.block [] ++ c.args.object ∷ [])) (c.self.inside.objects.room - 1))) (sym c.push-2.ensures.pushed)
    (record {
      each = have_push c.self.inside.objects.rows c.self.inside.counts.rows c.args.block c.args.object 0 c.self.invariant.each (omega (arith, many, given));
      room = ap (λ n. n - 1) c.self.invariant.room;
    }))

pub returns : goal.returns
returns c =
    let many = length_rows c.self.inside.objects.rows c.self.inside.counts.rows c.self.invariant.each in
    let counts = length_counts c.self.inside.objects.rows c.self.inside.counts.rows c.self.invariant.each in
    let given = subst (λ (s : CountsState). c.args.block < length s.rows) (sym c.self.view_is) c.requires.block in
    record {
      pushed = ap (λ (s : RowsState ℕ). counts_state (with_counts s.rows c.push-2.new.self.rows) s.room) c.push.ensures.pushed
          ∙ (ap (λ (s : RowsState ℕ). counts_state (with_counts (set c.self.inside.objects.rows c.args.block (get_or c.self.inside.objects.rows c.args.block [] ++ c.args.object ∷ [])) s.rows) (c.self.inside.objects.room - 1)) c.push-2.ensures.pushed
          ∙ (ap (λ rows. counts_state rows (c.self.inside.objects.room - 1)) (rows_push c.self.inside.objects.rows c.self.inside.counts.rows c.args.block c.args.object 0 c.self.invariant.each (omega (arith, many, given)))
          ∙ ap (λ (s : CountsState). counts_state (set s.rows c.args.block (get_or s.rows c.args.block [] ++ sync_count c.args.object 0 ∷ [])) (s.room - 1)) c.self.view_is));
    }
