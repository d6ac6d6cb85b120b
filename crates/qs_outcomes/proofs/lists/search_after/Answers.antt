use Rattle.std.proofs.Common.{◌≡◌, [], subst, ◌∙◌}
use Rattle.qs_outcomes.proofs.Common.{classes_in, order_of, rows_in}
use Rattle.qs_outcomes.specs.Search.{IsExplored}
use Rattle.qs_outcomes.proofs.lists.search_after.Goals as goal

pub returns-in-Ok-clause-explored : goal.returns-in-Ok-clause-explored
returns-in-Ok-clause-explored g c = λ none.
    let rows = rows_in c.in-Ok.searched.seen.keys in
    let found = c.in-Ok.searched.found.items in
    let made = c.in_ok-search.ensures.made in
    let front : c.in_ok-search.search.front.now ≡ order_of c.args.front.now =
    made.2 ∙ (c.as_slice.ensures.value ∙ (c.in_ok-order.ensures.same ∙ (c.order.ensures.order ∙ c.in_ok-first.ensures.first.order))) in
    subst (λ q. IsExplored q (classes_in c.args.classes.now) (order_of c.args.front.now) rows [] found) made.0
    (subst (λ k. IsExplored c.in_ok-search.search.program.now (classes_in k) (order_of c.args.front.now) rows [] found) made.1
    (subst (λ ts. IsExplored c.in_ok-search.search.program.now (classes_in c.in_ok-search.search.classes.now) ts rows [] found) front (c.in-Ok.ensures.explored none)))
