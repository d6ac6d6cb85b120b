use Rattle.std.proofs.Common.{◌≡◌, ◌+◌, ◌++◌, [], false, arith, length, map}
use Rattle.qs_steps.proofs.Names.{length-append, length-map-range_with_len, or_parts, range_with_len}
use Rattle.qs_played.specs.declared.schedule.actor.Actor.TheVariants as actor
use Rattle.qs_steps.proofs.TellingRuns.{row_still, row_told}
use Rattle.qs_steps.proofs.telling.put_round.Goals as goal

pub loop-client-preserved : goal.loop-client-preserved
loop-client-preserved g c =
    let v = g.M.Machine.view in
    let p = c.args.program.now in
    let i = c.loop-client.client in
    let it = c.in_ok-stepped in
    let number : (c.args.asked + 1) + c.from.result ≡ (c.args.asked + 1) + length (map actor.Client (range_with_len 0 i)) = omega (arith, c.from.ensures, length-map-range_with_len actor.Client 0 i) in
    record {
      told = row_told v c.args.form p false (c.args.asked + 1) _ [] actor.Client i _ _ _ _ _ _ _ c.loop-client.invariant.told it.ensures.asked it.ensures.line number;
      still = λ none.
          let both = or_parts c.loop-client.stepped it.field-0 none in
          row_still v [] actor.Client i _ _ _ _ (c.loop-client.invariant.still both.0) it.ensures.asked both.1;
    }

pub loop-handler-preserved : goal.loop-handler-preserved
loop-handler-preserved g c =
    let v = g.M.Machine.view in
    let p = c.args.program.now in
    let h = c.loop-handler.handler in
    let it = c.in_ok-stepped-2 in
    let clients = map actor.Client (range_with_len 0 (length p.clients)) in
    let number : ((c.args.asked + 1) + c.clients-clients.result) + c.from-in-loop-handler.result ≡ (c.args.asked + 1) + length (clients ++ map actor.Handler (range_with_len 0 h)) =
    omega (arith, c.clients-clients.ensures.value, c.from-in-loop-handler.ensures, length-append clients (map actor.Handler (range_with_len 0 h)), length-map-range_with_len actor.Client 0 (length p.clients), length-map-range_with_len actor.Handler 0 h) in
    record {
      told = row_told v c.args.form p false (c.args.asked + 1) _ clients actor.Handler h _ _ _ _ _ _ _ c.loop-handler.invariant.told it.ensures.asked it.ensures.line number;
      still = λ none.
          let both = or_parts c.loop-handler.stepped it.field-0 none in
          row_still v clients actor.Handler h _ _ _ _ (c.loop-handler.invariant.still both.0) it.ensures.asked both.1;
    }
