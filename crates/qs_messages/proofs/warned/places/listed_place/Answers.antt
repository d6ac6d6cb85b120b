use Rattle.std.proofs.Common.{◌≡◌, ◌∙◌, ◌-◌, length, refl, ap, rules, tests, unwrap_or}
use Rattle.std.specs.List.{find, range_with_len}
use Rattle.std.proofs.lemmas.Iterator.{YieldsList-from_range}
use Rattle.std.proofs.lemmas.Iterator.Search.{find_from_yields_List}
use Rattle.qs_messages.specs.Sources.{word_in}
use Rattle.qs_script.specs.audit.tokens.Tokens.{same}
use Rattle.qs_messages.specs.WarningPlaces.{list_at}
use Rattle.qs_messages.proofs.Searching.{as_is}
use Rattle.qs_messages.proofs.warned.places.listed_place.Goals as goal

pub returns : goal.returns
returns c =
    let text = c.args.source.text.now in
    let tokens = c.args.source.tokens.now in
    let count = length tokens in
    let found : c.find.result ≡ find (λ p. same (word_in text tokens p) c.args.word.now) (range_with_len (list_at text tokens c.args.client c.args.block) (count - (list_at text tokens c.args.client c.args.block))) =
    as_is c.find.result ∙ find_from_yields_List (λ p. same (word_in text tokens p) c.args.word.now) _ _ c.find.result c.find.ensures.ran (YieldsList-from_range (list_at text tokens c.args.client c.args.block) count _ (cc) refl) (λ x b q k. search (rules, tests)) in
    record { exact = c.unwrap_or.ensures ∙ ap (λ n. unwrap_or c.find.result n) c.len-2.ensures.exact ∙ ap (λ r. unwrap_or r count) found }
