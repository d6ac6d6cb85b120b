use Rattle.qs_text.proofs.Fronts.{front_of_parts}
use Rattle.qs_text.proofs.watching.write_texts.Goals as goal

pub returns-then-not-write_text-clause-front : goal.returns-then-not-write_text-clause-front
returns-then-not-write_text-clause-front g c =
    front_of_parts (λ text. text.now) _ _ _ c.args.texts.now c.loop-text.text-index _ c.loop-text-test.true c.loop-text.invariant.written c.write_text.ensures.front
