use Rattle.std.proofs.Common.{arith}
use Rattle.std.proofs.lemmas.Result.{on_ok_weaker}
use Rattle.qs_messages.specs.CheckTold.{IsSaidAt, span_at}
use Rattle.qs_messages.proofs.Anchored.{refusal_there}
use Rattle.qs_messages.proofs.causes.telling.tell_refusal.Goals as goal

pub unreachable-requires : goal.unreachable-requires
unreachable-requires c =
    let given = c.requires.anchor in
    omega (arith, refusal_there c.args.text.now c.args.tokens.now given.0 c.args.refusal.anchor c.requires.placed given.1 given.2, c.in-None.ensures.there)

pub returns : goal.returns
returns c =
    let text = c.args.text.now in
    let tokens = c.args.tokens.now in
    let place = c.in-Some.place in
    record {
      told = on_ok_weaker c.tell_at.result (λ (said : IsSaidAt text (span_at tokens place) c.args.out.now.items c.tell_at.new.out.items). record {
        tokens = tokens;
        placed = c.requires.placed;
        place = place;
        stands = c.in-Some.ensures.there;
        said = said;
      }) c.tell_at.ensures.told;
    }
