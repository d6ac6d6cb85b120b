use Rattle.std.proofs.Common.{true≢false, [], sym, ◌∙◌, arith}
use Rattle.qs_meaning.specs.Alike.{object_name}
use Rattle.qs_played.proofs.twin.Zips.{map_at, map_step}
use Rattle.qs_played.proofs.twin.twins.are_same_lists.Goals as goal

pub loop-place-init : goal.loop-place-init
loop-place-init c = λ s. s

pub returns-then-not-is_same_object : goal.returns-then-not-is_same_object
returns-then-not-is_same_object c =
    let here = c.args.here.now in
    let there = c.args.there.now in
    let place = c.loop-place.place in
    record {
      same = (
        λ e. absurd (true≢false (sym e)),
        λ whole. sym c.if-not-is_same_object.true ∙ c.is_same_object.ensures.same.1
            (map_at (object_name c.args.program.now) (object_name c.args.other.now) here there place _ _ [] c.loop-place-test.true
            (omega (arith, c.loop-place-test.true, c.if-here-there.false)) whole),
      );
    }

pub loop-place-preserved : goal.loop-place-preserved
loop-place-preserved c = λ later.
    c.loop-place.invariant
    (map_step (object_name c.args.program.now) (object_name c.args.other.now) c.args.here.now c.args.there.now c.loop-place.place _ _ c.loop-place-test.true
    (omega (arith, c.loop-place-test.true, c.if-here-there.false))
    (c.is_same_object.ensures.same.0 c.if-not-is_same_object.false) later)
