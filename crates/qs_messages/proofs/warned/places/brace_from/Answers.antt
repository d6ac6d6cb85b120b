use Rattle.std.proofs.Common.{◌≡◌, ◌∙◌, ◌-◌, length, refl, ap, rules, tests, unwrap_or}
use Rattle.std.specs.List.{find, range_with_len}
use Rattle.std.proofs.lemmas.Iterator.{YieldsList-from_range}
use Rattle.std.proofs.lemmas.Iterator.Search.{find_from_yields_List}
use Rattle.qs_messages.specs.WarningPlaces.{is_kind_at}
use Rattle.qs_messages.specs.declared.warned.places.TokenKind.TheVariants.{Brace}
use Rattle.qs_messages.proofs.Searching.{as_is}
use Rattle.qs_messages.proofs.warned.places.brace_from.Goals as goal

pub returns : goal.returns
returns c =
    let tokens = c.args.source.tokens.now in
    let count = length tokens in
    let found : c.find.result ≡ find (is_kind_at tokens Brace) (range_with_len (c.args.from) (count - (c.args.from))) =
    as_is c.find.result ∙ find_from_yields_List (is_kind_at tokens Brace) _ _ c.find.result c.find.ensures.ran (YieldsList-from_range (c.args.from) count _ (cc) refl) (λ x b q k. search (rules, tests)) in
    record { exact = c.unwrap_or.ensures ∙ ap (λ n. unwrap_or c.find.result n) c.len-2.ensures.exact ∙ ap (λ r. unwrap_or r count) found }
