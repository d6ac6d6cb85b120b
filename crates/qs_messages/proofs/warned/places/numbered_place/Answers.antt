use Rattle.std.proofs.Common.{◌∙◌, length, refl, rules, tests}
use Rattle.std.proofs.lemmas.Iterator.{YieldsList-from_range}
use Rattle.std.proofs.lemmas.Iterator.Consumers.{nth_from_yields_List, YieldsList-from_filter}
use Rattle.qs_messages.specs.WarningPlaces.{is_kind_at}
use Rattle.qs_messages.proofs.Searching.{as_is}
use Rattle.qs_messages.proofs.warned.places.numbered_place.Goals as goal

pub returns : goal.returns
returns c =
    record {
      exact = as_is c.nth.result ∙ nth_from_yields_List c.nth.result c.nth.new.self _ c.nth.ensures.ran
          (YieldsList-from_filter _ (is_kind_at c.args.source.tokens.now c.args.kind) (YieldsList-from_range c.args.from (length c.args.source.tokens.now) _ (cc) refl) c.filter.ensures.closure (λ x r q k. search (rules, tests)));
    }
