use Rattle.std.proofs.Common.{◌≡◌, ◌<◌, ◌^◌, List, [], add-one, arith, refl, rules, subst, suc, sym}
use Rattle.qs_run.proofs.Names.{AreTabled, CountedShape, IsComplete, IsCounted, IsTallyBy, LetRunsStart, ProgramShape, rows_in, worker_count}
use Rattle.qs_standings.specs.declared.rows.Row.{Row}
use Rattle.qs_run.proofs.many.Refusing.{memory_told, run_told}
use Rattle.qs_run.proofs.many.Tallying.{complete_of, few_times, tally_begun, tally_on}
use Rattle.qs_run.proofs.many.repeats.run_times_with.Goals as goal

-- no ends, and no rows of any
none_tabled : (p : ProgramShape) (keys : List Row) (ends : List CountedShape) → keys ≡ [] → ends ≡ [] → AreTabled p (rows_in keys) ends
none_tabled p keys ends no_keys none = subst (λ ks. AreTabled p (rows_in ks) ends) (sym no_keys) (subst (AreTabled p []) (sym none) (record { rows = refl; at_end = tt }))

pub begin-requires : goal.begin-requires
begin-requires g c = record {
  tabled = none_tabled c.args.program.now c.new-rows.result.keys c.new-ends.result.items c.new-rows.ensures.empty c.new-ends.ensures.items;
  none = c.new-ends.ensures.items;
}

pub count_run-requires : goal.count_run-requires
count_run-requires g c = record {
  complete = subst (IsComplete c.args.program.now) (sym c.order.ensures.value) (complete_of c.args.program.now c.args.repeats.mode c.args.repeats.size c.in_ok-outcome.outcome c.in_ok-outcome.ensures.outcome);
  tabled = c.loop-run.invariant.tabled;
  few = λ k e at.
      (let few = few_times c.args.program.now c.args.repeats.mode c.args.repeats.size c.loop-run._run c.args.limit c.in_ok-listed.listed c.loop-run.ends.items c.loop-run.invariant.tally k e at in
      let less = c.loop-run-test.true in
      let fits : c.args.repeats.times < 2 ^ 32 = search rules in
      omega (arith, few, less, fits));
}

pub loop-run-init : goal.loop-run-init
loop-run-init g c = record {
  tabled = c.in_ok-listed.ensures.tabled;
  started = refl;
  tally = tally_begun c.args.program.now c.args.repeats.mode c.args.repeats.size c.args.limit c.in_ok-listed.listed c.begin.new.ends.items c.in_ok-listed.ensures.begun;
}

pub loop-run-preserved : goal.loop-run-preserved
loop-run-preserved g c =
    let p = c.args.program.now in
    let before = c.loop-run.ends.items in
    let after = c.count_run.new.ends.items in
    let o = c.in_ok-outcome.outcome in
    let counted : IsCounted p o.order before after = subst (λ order. IsCounted p order before after) c.order.ensures.value c.in_ok-count_run.ensures.counted in
    record {
      tabled = c.in_ok-count_run.ensures.tabled;
      started = subst (λ n. LetRunsStart g.S.Starter.answers n (worker_count p) c.args.starter.now c.execute_with.new.starter) (sym (add-one c.loop-run._run))
          (c.loop-run.starter, c.loop-run.invariant.started, c.in_ok-outcome.ensures.started);
      tally = subst (λ n. IsTallyBy p c.args.repeats.mode c.args.repeats.size n c.args.limit (record { ends = after; listed = c.in_ok-listed.listed })) (sym (add-one c.loop-run._run))
          (tally_on p c.args.repeats.mode c.args.repeats.size c.loop-run._run c.args.limit c.in_ok-listed.listed before after o c.loop-run.invariant.tally c.in_ok-outcome.ensures.outcome counted);
    }

pub returns-in_err-listed-clause-refused : goal.returns-in_err-listed-clause-refused
returns-in_err-listed-clause-refused g c =
    memory_told g.S.Starter.answers c.from_residual.result c.args.repeats.times (worker_count c.args.program.now) 0 c.args.starter.now c.args.starter.now
    c.from_residual.ensures.1 (omega arith) refl

pub returns-in_err-outcome-clause-refused : goal.returns-in_err-outcome-clause-refused
returns-in_err-outcome-clause-refused g c =
    run_told g.S.Starter.answers c.from_residual-in_err-outcome.result c.args.repeats.times (worker_count c.args.program.now) c.loop-run._run c.in_err-outcome.field-0.0 c.args.starter.now
    c.loop-run.starter c.execute_with.new.starter c.from_residual-in_err-outcome.ensures.1 c.loop-run-test.true c.loop-run.invariant.started c.in_err-outcome.ensures.refused

pub returns-in_err-count_run-clause-refused : goal.returns-in_err-count_run-clause-refused
returns-in_err-count_run-clause-refused g c =
    memory_told g.S.Starter.answers c.from_residual-in_err-count_run.result c.args.repeats.times (worker_count c.args.program.now) (suc c.loop-run._run) c.args.starter.now
    c.execute_with.new.starter c.from_residual-in_err-count_run.ensures.1 (let less = c.loop-run-test.true in omega (arith, less))
    (c.loop-run.starter, c.loop-run.invariant.started, c.in_ok-outcome.ensures.started)

pub returns-clause-started : goal.returns-clause-started
returns-clause-started g c =
    subst (λ n. LetRunsStart g.S.Starter.answers n (worker_count c.args.program.now) c.args.starter.now c.loop-run.starter) {x = c.loop-run._run} {y = c.args.repeats.times}
    (let past = c.loop-run-test.false in let within = c.loop-run.auto._run-end in omega (arith, past, within)) c.loop-run.invariant.started

pub returns-clause-tally : goal.returns-clause-tally
returns-clause-tally g c =
    let all : c.loop-run._run ≡ c.args.repeats.times = (let past = c.loop-run-test.false in let within = c.loop-run.auto._run-end in omega (arith, past, within)) in
    subst (λ t. IsTallyBy c.args.program.now c.args.repeats.mode c.args.repeats.size c.args.repeats.times c.args.limit t) (sym c.new.ensures.tally)
    (subst (λ n. IsTallyBy c.args.program.now c.args.repeats.mode c.args.repeats.size n c.args.limit (record { ends = c.loop-run.ends.items; listed = c.in_ok-listed.listed })) all
    c.loop-run.invariant.tally)
