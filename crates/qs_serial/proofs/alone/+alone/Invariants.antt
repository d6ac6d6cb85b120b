use Rattle.std.proofs.Common.{◌+◌, ◌-◌, ◌*◌, length, drop}
use Rattle.qs_program.specs.Views.{single, size_of, statements_of}
use Rattle.qs_meaning.specs.audit.Solo.{exec, turns_run}
use Rattle.qs_serial.specs.Alone.{AreCallsWithin, states_in}
use Rattle.qs_serial.proofs.Endings.{SameEnding}
use Rattle.qs_serial.proofs.alone.+alone.Given as goal

abbrev pub decreases-run_body : goal.decreases-run_body
decreases-run_body l = 3 * size_of l.body.now + 1

abbrev pub decreases-run_turns : goal.decreases-run_turns
decreases-run_turns l = 3 * size_of l.body.now + 2

abbrev pub decreases-run_stmt : goal.decreases-run_stmt
decreases-run_stmt l = 3 * size_of (single l.stmt.now)

abbrev pub invariant-run_body-loop-stmt : goal.invariant-run_body-loop-stmt
invariant-run_body-loop-stmt l = record {
  within : AreCallsWithin (length l.objects) (statements_of (drop l.stmt-index l.stmt-items));
  same : SameEnding (exec (statements_of l.stmt-items) l.initial.locals (states_in l.initial.objects))
      (exec (statements_of (drop l.stmt-index l.stmt-items)) l.locals (states_in l.objects));
}

abbrev pub invariant-run_turns-loop-turn : goal.invariant-run_turns-loop-turn
invariant-run_turns-loop-turn l =
    SameEnding (turns_run l.count (exec l.body) l.initial.locals (states_in l.initial.objects))
    (turns_run (l.count - l.turn) (exec l.body) l.locals (states_in l.objects))
