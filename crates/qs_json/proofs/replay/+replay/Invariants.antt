-- What was replayed so far and what is left make up the whole, whatever comes after it.
use Rattle.std.proofs.Common.{◌≡◌, ◌+◌, ◌-◌, ◌*◌, drop}
use Rattle.qs_program.specs.Views.{single, size_of, statements_of}
use Rattle.qs_meaning.specs.audit.Interaction.{turns_in}
use Rattle.qs_json.specs.audit.Replay.{Replay, replay}
use Rattle.qs_json.proofs.replay.+replay.Given as goal

abbrev pub decreases-replay_body : goal.decreases-replay_body
decreases-replay_body l = 3 * size_of l.body.now + 1

abbrev pub decreases-replay_turns : goal.decreases-replay_turns
decreases-replay_turns l = 3 * size_of l.body.now + 2

abbrev pub decreases-replay_stmt : goal.decreases-replay_stmt
decreases-replay_stmt l = 3 * size_of (single l.stmt.now)

abbrev pub invariant-replay_body-loop-stmt : goal.invariant-replay_body-loop-stmt
invariant-replay_body-loop-stmt l =
    (next leaves : Replay) → replay (statements_of l.stmt-items) next leaves l.initial.locals (drop l.initial.done l.trace)
    ≡ replay (statements_of (drop l.stmt-index l.stmt-items)) next leaves l.locals (drop l.done l.trace)

abbrev pub invariant-replay_turns-loop-turn : goal.invariant-replay_turns-loop-turn
invariant-replay_turns-loop-turn l =
    (next : Replay) → turns_in l.count (λ turn. replay l.body turn next) next l.initial.locals (drop l.initial.done l.trace)
    ≡ turns_in (l.count - l.turn) (λ turn. replay l.body turn next) next l.locals (drop l.done l.trace)
