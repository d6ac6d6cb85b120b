use Rattle.std.proofs.Common.{◌≡◌, ◌∙◌, ◌-◌, length, refl, ap, rules, tests}
use Rattle.std.specs.List.{find, range_with_len}
use Rattle.std.proofs.lemmas.Iterator.{YieldsList-from_range}
use Rattle.std.proofs.lemmas.Iterator.Search.{find_from_yields_List}
use Rattle.qs_messages.specs.WarningPlaces.{after, is_template_of}
use Rattle.qs_messages.proofs.Searching.{as_is}
use Rattle.qs_messages.proofs.warned.places.template_place.Goals as goal

pub returns : goal.returns
returns c =
    let text = c.args.source.text.now in
    let tokens = c.args.source.tokens.now in
    let count = length tokens in
    let found : c.find-found.result ≡ find (is_template_of text tokens c.args.word.now) (range_with_len (0) (count - (0))) =
    as_is c.find-found.result ∙ find_from_yields_List (is_template_of text tokens c.args.word.now) _ _ c.find-found.result c.find-found.ensures.ran (YieldsList-from_range (0) count _ (cc) refl) (λ x b q k. search (rules, tests)) in
    record { exact = c.after.ensures.exact ∙ ap (λ n. after c.find-found.result n) c.len-2.ensures.exact ∙ ap (λ r. after r count) found }
