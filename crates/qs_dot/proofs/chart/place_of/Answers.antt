use Rattle.qs_dot.proofs.Common.{arith, subst, IsRowPlaced, rows_in, row_of, rules}
use Rattle.qs_dot.proofs.Charting.{kept_charted, kept_placed, more_charted, more_placed, too_many}
use Rattle.qs_dot.proofs.chart.place_of.Goals as goal
use Rattle.qs_dot.proofs.chart.place_of.Goals.{In_ok-place}

row_at : (c : In_ok-place) → IsRowPlaced (rows_in c.args.rows.now.keys) (row_of c.args.search.now.program.now c.args.standing) c.in_ok-place.place c.in_ok-place.new (rows_in c.row_place.new.rows.keys)
row_at c = subst (λ r. IsRowPlaced (rows_in c.args.rows.now.keys) r c.in_ok-place.place c.in_ok-place.new (rows_in c.row_place.new.rows.keys)) c.in_ok-row.ensures.row c.in_ok-place.ensures.placed

pub returns-then-not-new-clause-charted : goal.returns-then-not-new-clause-charted
returns-then-not-new-clause-charted c = search (rules, kept_charted)

pub returns-then-not-new-clause-placed : goal.returns-then-not-new-clause-placed
returns-then-not-new-clause-placed c =
    kept_placed c.args.search.now.program.now c.args.search.now.front.now c.keeps_sound.ensures.sound c.args.search.now.limit _ _ c.args.places.now.items c.args.standing c.in_ok-place.place c.requires.charted c.requires.standing
    c.in_ok-place.new c.if-not-new.true (row_at (goal.at.returns-then-not-new-clause-placed c).In_ok-place)

pub returns-then-len-search-clause-limit : goal.returns-then-len-search-clause-limit
returns-then-len-search-clause-limit c = search (rules, too_many)

pub returns-clause-charted : goal.returns-clause-charted
returns-clause-charted c =
    more_charted c.args.search.now.program.now c.args.search.now.front.now c.keeps_sound.ensures.sound c.args.search.now.limit _ _ c.args.places.now.items c.args.standing c.in_ok-place.place c.requires.charted c.requires.standing
    c.in_ok-place.new c.if-not-new.false (let l = c.if-len-search.false in let e = c.len.ensures in let long = c.args.places.now.ok.0 in omega (arith, l, e, long)) (row_at (goal.at.returns-clause-charted c).In_ok-place)
    c.add.new.list.items c.in_ok-add.ensures.added

pub returns-clause-placed : goal.returns-clause-placed
returns-clause-placed c =
    more_placed c.args.search.now.program.now c.args.search.now.front.now c.keeps_sound.ensures.sound c.args.search.now.limit _ _ c.args.places.now.items c.args.standing c.in_ok-place.place c.requires.charted c.requires.standing
    c.in_ok-place.new c.if-not-new.false (let l = c.if-len-search.false in let e = c.len.ensures in let long = c.args.places.now.ok.0 in omega (arith, l, e, long)) (row_at (goal.at.returns-clause-placed c).In_ok-place)
    c.add.new.list.items c.in_ok-add.ensures.added
