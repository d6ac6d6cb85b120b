use Rattle.std.proofs.Common.{[], Ok, ap, arith}
use Rattle.qs_messages.proofs.Anchored.{stands_within}
use Rattle.qs_messages.proofs.causes.telling.span_of.Goals as goal

pub overflow_sub-result : goal.overflow_sub-result
overflow_sub-result c =
    let token = c.index-tokens-place.result in
    let within = stands_within c.args.text.now c.args.tokens.now (Ok []) c.args.place token c.requires.stand c.requires.place in
    omega (arith, within.0, ap (λ p. p.start) c.index-tokens-place.is, ap (λ p. p.end) c.index-tokens-place.is)

pub returns-clause-within : goal.returns-clause-within
returns-clause-within c =
    let token = c.index-tokens-place.result in
    let within = stands_within c.args.text.now c.args.tokens.now (Ok []) c.args.place token c.requires.stand c.requires.place in
    omega (arith, within.0, within.1, ap (λ p. p.start) c.index-tokens-place.is, ap (λ p. p.end) c.index-tokens-place.is)
