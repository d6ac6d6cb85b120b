use Rattle.qs_levels.proofs.Common.{◌≡◌, ◌≤◌, ◌+◌, [], ap, arith, length, subst, suc, sym, err_from_is_err_and, IsLegal, nil_from_length, AreFrontsAfter, IsLevel, HasMoreFronts, rules}
use Rattle.qs_levels.proofs.meaning.Reaching.{fronts_of, level_first, level_on, none_later}
use Rattle.qs_levels.proofs.MoreFronts.{few_first, few_later, few_next, more_on, more_than_no_fronts}
use Rattle.qs_levels.proofs.fronts.fronts_from.Goals as goal
use Rattle.qs_levels.proofs.fronts.fronts_from.Goals.{In_ok-level-2}

pub returns-in_err-level-clause-many : goal.returns-in_err-level-clause-many
returns-in_err-level-clause-many c = search (rules, err_from_is_err_and, more_than_no_fronts)

pub loop-done-init : goal.loop-done-init
loop-done-init c =
    let is : IsLevel c.args.program.now c.args.front.now 0 c.in_ok-level.level.standings = rw c.in_ok-level.ensures.first (level_first _ _ c.args.first c.requires.first) in
    let small : length c.in_ok-level.level.standings ≤ c.args.limit = (let one = ap length c.in_ok-level.ensures.first in let within = c.in_ok-level.ensures.within in omega (arith, one, within)) in
    record { level = is; going = c.in_ok-level.ensures.going; small = small; few = few_first c.args.program.now c.args.front.now c.args.limit c.in_ok-level.level.standings is small }

next_is : (c : In_ok-level-2) → IsLevel c.args.program.now c.args.front.now (suc c.loop-done.done) c.in_ok-level-2.level.standings
next_is c =
    level_on c.args.program.now c.args.front.now c.loop-done.done c.loop-done.level.standings c.loop-done.invariant.level c.in_ok-level-2.level.standings
    c.in_ok-level-2.ensures.next

next_few : (c : In_ok-level-2) → HasMoreFronts c.args.program.now c.args.front.now (suc c.loop-done.done) c.args.limit → ⊥
next_few c = few_next c.args.program.now c.args.front.now c.loop-done.done c.args.limit c.in_ok-level-2.level.standings (next_is c) c.in_ok-level-2.ensures.small c.loop-done.invariant.few

pub returns-in_err-level-2-clause-many : goal.returns-in_err-level-2-clause-many
returns-in_err-level-2-clause-many c = search (rules, err_from_is_err_and, more_on)

pub loop-done-preserved : goal.loop-done-preserved
loop-done-preserved c = record {
  level = subst (λ k. IsLevel c.args.program.now c.args.front.now k c.in_ok-level-2.level.standings) {x = suc c.loop-done.done} {y = c.loop-done.done + 1} (omega arith)
      (next_is (goal.at.loop-done-preserved c).In_ok-level-2);
  going = c.in_ok-level-2.ensures.going;
  small = c.in_ok-level-2.ensures.small;
  few = subst (λ k. HasMoreFronts c.args.program.now c.args.front.now k c.args.limit → ⊥) {x = suc c.loop-done.done} {y = c.loop-done.done + 1} (omega arith)
      (next_few (goal.at.loop-done-preserved c).In_ok-level-2);
}

-- the next level has nobody
none_next : (c : In_ok-level-2) → length c.in_ok-level-2.level.standings ≡ 0 → IsLevel c.args.program.now c.args.front.now (suc c.loop-done.done) []
none_next c none = subst (IsLevel c.args.program.now c.args.front.now (suc c.loop-done.done)) (nil_from_length c.in_ok-level-2.level.standings none) (next_is c)

pub returns-then-len-eq0-clause-fronts : goal.returns-then-len-eq0-clause-fronts
returns-then-len-eq0-clause-fronts c =
    rw c.new.ensures.items (fronts_of _ _ c.args.blocks [] (subst (IsLegal c.args.program.now) c.requires.first.order c.requires.first.standing.legal)
    (none_later _ _ (suc c.loop-done.done) c.args.blocks (let more = c.loop-done-test.true in omega (arith, more))
    (none_next (goal.at.returns-then-len-eq0-clause-fronts c).In_ok-level-2 (let n = c.if-len-eq0.true in let e = c.len.ensures.len in omega (arith, n, e)))))

pub returns-then-len-eq0-clause-few : goal.returns-then-len-eq0-clause-few
returns-then-len-eq0-clause-few c =
    let next = (goal.at.returns-then-len-eq0-clause-few c).In_ok-level-2 in
    few_later c.args.program.now c.args.front.now (suc c.loop-done.done) c.args.blocks c.args.limit
    (none_next next (let n = c.if-len-eq0.true in let e = c.len.ensures.len in omega (arith, n, e))) (next_few next)

pub returns-clause-fronts : goal.returns-clause-fronts
returns-clause-fronts c = search (rules, fronts_of)

pub returns-clause-few : goal.returns-clause-few
returns-clause-few c =
    subst (λ k. HasMoreFronts c.args.program.now c.args.front.now k c.args.limit → ⊥) {x = c.loop-done.done} {y = c.args.blocks}
    (let e = c.loop-done.auto.done-end in let o = c.loop-done-test.false in omega (arith, e, o)) c.loop-done.invariant.few
