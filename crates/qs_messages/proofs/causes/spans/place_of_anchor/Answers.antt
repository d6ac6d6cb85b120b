use Rattle.std.proofs.Common.{◌∙◌, arith, sym}
use Rattle.qs_messages.proofs.Anchored.{anchor_at}
use Rattle.qs_messages.proofs.causes.spans.place_of_anchor.Goals as goal

pub returns-then-left-eq0 : goal.returns-then-left-eq0
returns-then-left-eq0 c = record {
  there = anchor_at c.args.tokens.now c.args.number c.loop-place.place c.index-tokens-place.result c.loop-place-test.true
      (sym c.is_anchor.ensures.value ∙ c.if-is_anchor.true) (omega (arith, c.loop-place.invariant, c.if-left-eq0.true));
}
