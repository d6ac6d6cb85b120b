use Rattle.std.proofs.Common.{◌≡◌, ◌+◌, ◌∙◌, arith, get_or, pos, refl, rules, sym, length-set}
use Rattle.std.proofs.lemmas.Int.{to_z-of_z}
use mir.Val.{SFits, of_z, to_z}
use mir.Syntax.{w64}
use Rattle.qs_standings.specs.Rows.{overwritten}
use Rattle.qs_standings.proofs.NextRows.{over_end, over_more}
use Rattle.qs_standings.proofs.rows.put_numbers.Goals as goal

pub loop-place-init : goal.loop-place-init
loop-place-init c = record { long = refl; rest = λ i. overwritten c.args.row.now (let e : c.args.first + 0 ≡ c.args.first = omega arith in e i) c.args.numbers.now }

pub loop-place-preserved : goal.loop-place-preserved
loop-place-preserved c =
    let fits : SFits w64 (get_or c.args.numbers.now c.loop-place.place (pos 0)) = search rules in
    let same : to_z w64 (of_z w64 (get_or c.args.numbers.now c.loop-place.place (pos 0))) ≡ get_or c.args.numbers.now c.loop-place.place (pos 0) = simp to_z-of_z in
    record {
      long = length-set c.loop-place.row (c.args.first + c.loop-place.place) _ ∙ c.loop-place.invariant.long;
      rest = over_more c.loop-place.row c.args.numbers.now c.args.first c.loop-place.place _ (pos 0) (let e = c.loop-place-test.true in omega (arith, e)) same ∙ c.loop-place.invariant.rest;
    }

pub returns : goal.returns
returns c = record { long = c.loop-place.invariant.long; put = sym (over_end c.loop-place.row c.args.numbers.now _ c.loop-place.place (let e = c.loop-place-test.false in omega (arith, e))) ∙ c.loop-place.invariant.rest }
