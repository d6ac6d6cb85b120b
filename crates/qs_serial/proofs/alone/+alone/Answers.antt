use Rattle.std.proofs.Common.{◌≡◌, ◌-◌, ◌+◌, drop, [], true, false, arith, ap, subst, sym}
use Rattle.std.proofs.lemmas.List.{drop_all}
use Rattle.qs_program.specs.Views.{single, size_of, statements_of}
use Rattle.qs_program.proofs.StatementLists.{size_at}
use Rattle.qs_meaning.specs.audit.Solo.{exec, turns_run}
use Rattle.qs_serial.specs.Alone.{AreCallsWithin, EndsWith, states_in}
use Rattle.qs_serial.proofs.Endings.{SameEnding, calls_drop, ended, exec_drop, known, onward, then_left, then_on, turns_left, turns_on}
use Rattle.qs_serial.proofs.alone.+alone.Goals as goal

pub run_body-run_stmt-requires : goal.run_body-run_stmt-requires
run_body-run_stmt-requires t c =
    let items = c.as_slice-stmt-items.result.now in (
      omega (arith, size_at items c.loop-stmt.stmt-index c.stmt-item.result c.loop-stmt-test.true, ap size_of c.as_slice-stmt-items.ensures.value, ap (λ s. size_of (single s)) c.stmt-item.is, c.decreases),
      (calls_drop _ items c.loop-stmt.stmt-index c.stmt-item.result c.stmt-item.result c.loop-stmt-test.true c.stmt-item.is c.loop-stmt.invariant.within).0,
    )

pub run_body-returns-then-run_stmt : goal.run_body-returns-then-run_stmt
run_body-returns-then-run_stmt t c =
    let items = c.as_slice-stmt-items.result.now in
    record {
      ends = subst (λ b. EndsWith (exec b c.args.locals.now (states_in c.args.objects.now)) true c.run_stmt.new.locals c.run_stmt.new.objects) (sym c.as_slice-stmt-items.ensures.value)
          (ended (onward c.loop-stmt.invariant.same
          (exec_drop items c.loop-stmt.stmt-index c.stmt-item.result c.stmt-item.result c.loop-stmt.locals (states_in c.loop-stmt.objects) c.loop-stmt-test.true c.stmt-item.is))
          (then_left _ (exec (statements_of (drop (c.loop-stmt.stmt-index + 1) items))) _ _ (known c.run_stmt.ensures.ends c.if-run_stmt.true)));
    }

pub run_body-loop-stmt-preserved : goal.run_body-loop-stmt-preserved
run_body-loop-stmt-preserved t c =
    let items = c.as_slice-stmt-items.result.now in
    record {
      within = subst (λ n. AreCallsWithin n (statements_of (drop (c.loop-stmt.stmt-index + 1) items))) (sym c.run_stmt.auto.objects)
          (calls_drop _ items c.loop-stmt.stmt-index c.stmt-item.result c.stmt-item.result c.loop-stmt-test.true c.stmt-item.is c.loop-stmt.invariant.within).1;
      same = onward c.loop-stmt.invariant.same
          (onward (exec_drop items c.loop-stmt.stmt-index c.stmt-item.result c.stmt-item.result c.loop-stmt.locals (states_in c.loop-stmt.objects) c.loop-stmt-test.true c.stmt-item.is)
          (then_on _ (exec (statements_of (drop (c.loop-stmt.stmt-index + 1) items))) _ _ (known c.run_stmt.ensures.ends c.if-run_stmt.false)));
    }

pub run_body-returns : goal.run_body-returns
run_body-returns t c =
    let items = c.as_slice-stmt-items.result.now in
    let none = drop_all c.loop-stmt.stmt-index items c.loop-stmt-test.false in
    let same : SameEnding (exec (statements_of items) c.args.locals.now (states_in c.args.objects.now)) (exec (statements_of []) c.loop-stmt.locals (states_in c.loop-stmt.objects)) =
    subst (λ xs. SameEnding (exec (statements_of items) c.args.locals.now (states_in c.args.objects.now)) (exec (statements_of xs) c.loop-stmt.locals (states_in c.loop-stmt.objects))) none c.loop-stmt.invariant.same in
    record {
      ends = subst (λ b. EndsWith (exec b c.args.locals.now (states_in c.args.objects.now)) false c.loop-stmt.locals c.loop-stmt.objects) (sym c.as_slice-stmt-items.ensures.value)
          (record { left = same.left; locals = same.locals; states = same.states });
    }

pub run_turns-loop-turn-preserved : goal.run_turns-loop-turn-preserved
run_turns-loop-turn-preserved t c =
    onward c.loop-turn.invariant (turns_on _ (c.args.count - (c.loop-turn.turn + 1)) (exec c.args.body.now) _ _ _ _ (omega arith) (known c.run_body.ensures.ends c.if-run_body.false))

pub run_turns-returns-then-run_body : goal.run_turns-returns-then-run_body
run_turns-returns-then-run_body t c = record {
  ends = ended c.loop-turn.invariant (turns_left _ (c.args.count - (c.loop-turn.turn + 1)) (exec c.args.body.now) _ _ _ _ (omega arith) (known c.run_body.ensures.ends c.if-run_body.true));
}

pub run_turns-returns : goal.run_turns-returns
run_turns-returns t c =
    let none : c.args.count - c.loop-turn.turn ≡ 0 = omega arith in
    let same : SameEnding (turns_run c.args.count (exec c.args.body.now) c.args.locals.now (states_in c.args.objects.now)) (turns_run 0 (exec c.args.body.now) c.loop-turn.locals (states_in c.loop-turn.objects)) =
    subst (λ n. SameEnding (turns_run c.args.count (exec c.args.body.now) c.args.locals.now (states_in c.args.objects.now)) (turns_run n (exec c.args.body.now) c.loop-turn.locals (states_in c.loop-turn.objects))) none c.loop-turn.invariant in
    record { ends = record { left = same.left; locals = same.locals; states = same.states } }
