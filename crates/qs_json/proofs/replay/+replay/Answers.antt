use Rattle.std.proofs.Common.{◌≡◌, ◌∙◌, ◌-◌, drop, ap, arith}
use Rattle.qs_program.specs.Views.{single, size_of}
use Rattle.qs_program.proofs.StatementLists.{size_at}
use Rattle.qs_meaning.specs.audit.Interaction.{turns_in}
use Rattle.qs_json.specs.audit.Replay.{replay}
use Rattle.qs_json.proofs.Replays.{turns_left}
use Rattle.qs_json.proofs.replay.+replay.Goals as goal

pub replay_body-replay_stmt-requires : goal.replay_body-replay_stmt-requires
replay_body-replay_stmt-requires t c =
    omega (arith, size_at c.as_slice-stmt-items.result.now c.loop-stmt.stmt-index c.stmt-item.result c.loop-stmt-test.true, ap size_of c.as_slice-stmt-items.ensures.value, ap (λ s. size_of (single s)) c.stmt-item.is, c.decreases)

pub replay_turns-returns-in-Leave : goal.replay_turns-returns-in-Leave
replay_turns-returns-in-Leave t c = record {
  reached = λ next leaves. c.loop-turn.invariant next
      ∙ turns_left c.args.count c.loop-turn.turn (λ later. replay c.args.body.now later next) next _ _ c.loop-turn-test.true
      ∙ c.in-Leave.ensures.reached _ next;
}

pub replay_turns-returns-in-Request : goal.replay_turns-returns-in-Request
replay_turns-returns-in-Request t c = record {
  reached = λ next leaves. c.loop-turn.invariant next
      ∙ turns_left c.args.count c.loop-turn.turn (λ later. replay c.args.body.now later next) next _ _ c.loop-turn-test.true
      ∙ c.in-Request.ensures.reached _ next;
}

pub replay_turns-loop-turn-preserved : goal.replay_turns-loop-turn-preserved
replay_turns-loop-turn-preserved t c next =
    c.loop-turn.invariant next
    ∙ turns_left c.args.count c.loop-turn.turn (λ later. replay c.args.body.now later next) next _ _ c.loop-turn-test.true
    ∙ c.in-End.ensures.reached _ next

pub replay_turns-returns : goal.replay_turns-returns
replay_turns-returns t c =
    let none : c.args.count - c.loop-turn.turn ≡ 0 = omega arith in
    record {
      reached = λ next leaves. c.loop-turn.invariant next
          ∙ ap (λ n. turns_in n (λ later. replay c.args.body.now later next) next c.loop-turn.locals (drop c.loop-turn.done c.args.trace.now)) none;
    }
