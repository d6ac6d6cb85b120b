use Rattle.std.proofs.Common.{◌-◌, sym, ◌∙◌, subst, arith}
use Rattle.qs_chunk.specs.Ring.{IsRing}
use Rattle.qs_chunk.proofs.Rings.{full_place, taken, none_left}
use Rattle.qs_chunk.proofs.cells.Room.drop_values.Goals as goal

pub read-requires : goal.read-requires
read-requires g c = let first = full_place c.loop-left.invariant.0 (omega (arith, c.loop-left-test.true)) in record { inside = first.0; full = first.1 }

pub loop-left-preserved : goal.loop-left-preserved
loop-left-preserved g c =
    let r = c.read.ensures in let next = c.place_on-first.result in (
      subst (λ l. IsRing l c.args.capacity next (c.loop-left.left - 1)) (sym r.places)
          (taken c.loop-left.invariant.0 next c.read.result (omega (arith, c.loop-left-test.true)) c.place_on-first.ensures r.value).0,
      r.giver ∙ c.loop-left.invariant.1,
    )

pub returns : goal.returns
returns g c = record { places = none_left c.loop-left.invariant.0 (omega (arith, c.loop-left-test.false)); giver = c.loop-left.invariant.1 }
