use Rattle.std.proofs.Common.{ap, ◌∙◌}
use Rattle.qs_meaning.specs.Reduced.{smaller}
use Rattle.qs_standings.specs.going.Going.{in_byte}
use Rattle.qs_standings.proofs.going.GoingSets.{smaller_same}
use Rattle.qs_standings.proofs.going.going.smaller.Goals as goal

pub returns-then-one-other : goal.returns-then-one-other
returns-then-one-other c = record {
  smaller = smaller_same c.args.program.now (in_byte c.args.one) ∙ ap (λ set. smaller c.args.program.now (in_byte c.args.one) (in_byte set)) c.if-one-other.true;
}
