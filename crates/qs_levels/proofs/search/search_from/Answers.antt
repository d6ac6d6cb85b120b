use Rattle.qs_levels.proofs.Common.{◌≡◌, ◌+◌, ◌-◌, Err, [], ap, arith, length, subst, sym, ◌∙◌, AreOutcomesAfter, err_from_is_err_and, HasMoreThanAfter, IsLegal, Limit, nil_from_length, rules}
use Rattle.qs_levels.proofs.Common.{HasMoreOnward, IsLevel, IsSearched}
use Rattle.qs_levels.proofs.meaning.Ends.{no_room, no_room_first, outcomes_of_level, search_begins, search_goes_on}
use Rattle.qs_levels.proofs.meaning.Reaching.{level_first, more_than_none}
use Rattle.qs_levels.proofs.search.search_from.Goals as goal

pub returns-in_err-level-clause-limit : goal.returns-in_err-level-clause-limit
returns-in_err-level-clause-limit g c = λ is.
    let p = err_from_is_err_and c.from_residual.result c.from_residual.ensures.1 in
    subst (HasMoreThanAfter c.args.search.now.program.now c.args.search.now.front.now) (sym (c.in_err-level.ensures.limit (cc (p.1, p.2)))) (more_than_none _ _ c.args.first c.requires.first)

pub next_level-requires-clause-level : goal.next_level-requires-clause-level
next_level-requires-clause-level g c = λ κs within.
    (0, subst (IsLevel c.args.search.now.program.now c.args.search.now.front.now 0) (sym c.in_ok-level.ensures.first) (level_first c.args.search.now.program.now c.args.search.now.front.now c.args.first c.requires.first))

pub returns-in_err-next-clause-limit : goal.returns-in_err-next-clause-limit
returns-in_err-next-clause-limit g c = λ is.
    let p = err_from_is_err_and c.from_residual-in_err-next.result c.from_residual-in_err-next.ensures.1 in
    no_room_first _ _ c.args.first _ c.args.limit c.requires.first c.in_ok-level.ensures.first c.in_ok-level.ensures.within (c.in_err-next.ensures.limit (cc (p.1, p.2)))

pub levels-init : goal.levels-init
levels-init g c = search (rules, search_begins)

pub returns-in_err-next-2-clause-limit : goal.returns-in_err-next-2-clause-limit
returns-in_err-next-2-clause-limit g c = λ is.
    let p = err_from_is_err_and c.from_residual-in_err-next-2.result c.from_residual-in_err-next-2.ensures.1 in
    let long : c.levels.noted + c.len-noted.result ≡ c.levels.noted + length c.levels.next.standings = (let e = c.len-noted.ensures.len in omega (arith, e)) in
    no_room c.args.search.now.program.now c.args.search.now.front.now c.levels.level.standings c.levels.next.standings c.levels.noted c.args.limit c.levels.invariant.searched c.levels.invariant.small
    (subst (λ n. HasMoreOnward c.args.search.now.program.now c.args.search.now.front.now c.levels.next.standings (c.args.limit - n)) long (c.in_err-next-2.ensures.limit (cc (p.1, p.2))))

pub levels-preserved : goal.levels-preserved
levels-preserved g c = search (rules, search_goes_on)

pub returns-clause-outcomes : goal.returns-clause-outcomes
returns-clause-outcomes g c =
    let none : c.levels.next.standings ≡ [] = nil_from_length c.levels.next.standings (let n = c.levels-test.false in let e = c.len.ensures.len in omega (arith, n, e)) in
    rw (c.new-3.ensures.all, c.in_ok-found.ensures.all)
    (outcomes_of_level _ _ c.keeps_sound.ensures.sound c.levels.level.standings c.levels.noted (rw none at c.levels.invariant.searched)
    (subst (IsLegal c.args.search.now.program.now) c.requires.first.order c.requires.first.standing.legal))
