use Rattle.std.proofs.Common.{ap, replicate, ◌∙◌}
use Rattle.qs_meaning.specs.audit.Serial.{zeros}
use Rattle.qs_standings.specs.Variables.{spread}
use Rattle.qs_standings.proofs.Spread.{spread_zeros}
use Rattle.qs_standings.proofs.variables.Variables.zeros.Goals as goal

pub returns : goal.returns
returns c = record {
  zeros = ap (spread c.most_named-width.result c.clients-clients.result) (c.in_ok-vec.ensures.items_if_clones_equal (λ y same. same))
      ∙ (spread_zeros c.most_named-width.result c.clients-clients.result c.most_named-width.ensures.few ∙ ap (λ n. replicate n zeros) c.clients-clients.ensures.value);
}
