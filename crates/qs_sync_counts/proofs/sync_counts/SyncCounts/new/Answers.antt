use Rattle.std.proofs.Common.{ℕ, [], replicate, refl, sym, ap, ◌∙◌, subst}
use Rattle.qs_objects.specs.Rows.{RowsState, rows_state}
use Rattle.qs_sync_counts.specs.SyncRows.{AreAlike, counts_state, with_counts}
use Rattle.qs_sync_counts.proofs.CountRows.{fresh_counts, have_fresh}
use Rattle.qs_sync_counts.proofs.sync_counts.SyncCounts.new.Goals as goal

pub invariant_of-result : goal.invariant_of-result
invariant_of-result c =
    subst (λ s. AreAlike s c.in_ok-counts.counts) (sym c.in_ok-objects.ensures.fresh)
    (subst (AreAlike (rows_state (replicate c.args.blocks []) c.args.room)) (sym c.in_ok-counts.ensures.fresh)
    (record { each = have_fresh c.args.blocks; room = refl }))

pub returns-clause-fresh : goal.returns-clause-fresh
returns-clause-fresh c =
    ap (λ (s : RowsState ℕ). counts_state (with_counts s.rows c.in_ok-counts.counts.rows) s.room) c.in_ok-objects.ensures.fresh
    ∙ (ap (λ (s : RowsState ℕ). counts_state (with_counts (replicate c.args.blocks []) s.rows) c.args.room) c.in_ok-counts.ensures.fresh
    ∙ ap (λ rows. counts_state rows c.args.room) (fresh_counts c.args.blocks))
