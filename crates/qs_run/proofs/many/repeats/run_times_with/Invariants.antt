use Rattle.qs_run.proofs.Names.{AreTabled, IsTallyBy, LetRunsStart, rows_in, worker_count}
use Rattle.qs_run.proofs.many.repeats.run_times_with.Given as goal

abbrev pub invariant-loop-run : goal.invariant-loop-run
invariant-loop-run g l = record {
  tabled : AreTabled l.program (rows_in l.rows.keys) l.ends.items;
  started : LetRunsStart g.S.Starter.answers l._run (worker_count l.program) l.fn.starter l.starter;
  tally : IsTallyBy l.program l.mode l.size l._run l.limit (record { ends = l.ends.items; listed = l.listed });
}
