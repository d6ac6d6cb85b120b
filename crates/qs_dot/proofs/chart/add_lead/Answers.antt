use Rattle.qs_dot.proofs.Common.{◌≡◌, Some, slice_get, sym, ◌∙◌, true≢false, GoesOn, IsStanding}
use Rattle.qs_dot.proofs.Charting.{each_got, got_at, got_on, lead_added, lead_skipped, leads_on, some_at}
use Rattle.qs_standings.proofs.going.GoingSets.{in_set, out_of_set}
use Rattle.qs_dot.proofs.chart.add_lead.Goals as goal
use Rattle.qs_dot.proofs.chart.add_lead.Goals.{After-index}

here : (c : After-index) → slice_get c.args.drawing.now.places.items c.args.at ≡ Some c.index.result.now
here c = got_at c.args.drawing.now.places.items c.args.at c.index.result.now c.requires.at c.index.ensures

on : (c : After-index) → GoesOn c.args.search.now.program.now c.index.result.now c.args.client
on c = (λ i. sym (c.requires.goes c.index.result.now (here c)) i c.args.client) ∙ in_set c.args.goes c.args.client c.if-goes-client-eq1.true

pub next_of-requires-clause-standing : goal.next_of-requires-clause-standing
next_of-requires-clause-standing c =
    each_got (IsStanding c.args.search.now.program.now c.args.search.now.front.now) c.args.drawing.now.places.items c.args.at c.index.result.now (here (goal.at.next_of-requires-clause-standing c).After-index) c.requires.charted.reached

pub next_of-requires-clause-goes : goal.next_of-requires-clause-goes
next_of-requires-clause-goes c = on (goal.at.next_of-requires-clause-goes c).After-index

pub returns-in_ok-add-clause-leads : goal.returns-in_ok-add-clause-leads
returns-in_ok-add-clause-leads c =
    let a : After-index = (goal.at.returns-in_ok-add-clause-leads c).After-index in
    let p = c.args.search.now.program.now in
    let placed = c.in_ok-to.ensures.placed in
    let there = placed.there in
    lead_added p c.place_of.new.places.items c.args.drawing.now.leads.items c.args.at c.args.client
    (leads_on p c.args.drawing.now.places.items c.place_of.new.places.items placed.more c.args.drawing.now.leads.items c.args.at c.args.client c.requires.at c.requires.leads)
    c.index.result.now (got_on c.args.drawing.now.places.items c.place_of.new.places.items c.args.at c.index.result.now placed.more (here a)) (on a)
    c.in_ok-to.to (there.0, there.1, there.2 ∙ c.in_ok-next.ensures.next.next) c.add.new.list.items c.in_ok-add.ensures.added

pub returns-else-goes-client-eq1-clause-leads : goal.returns-else-goes-client-eq1-clause-leads
returns-else-goes-client-eq1-clause-leads c =
    let s = some_at c.args.drawing.now.places.items c.args.at c.requires.at in
    lead_skipped c.args.search.now.program.now c.args.drawing.now.places.items c.args.drawing.now.leads.items c.args.at c.args.client c.requires.leads s.0 s.1
    (λ goes. true≢false (sym goes ∙ ((λ i. sym (c.requires.goes s.0 s.1) i c.args.client) ∙ out_of_set c.args.goes c.args.client c.if-goes-client-eq1.false)))
