use Rattle.std.proofs.Common.{◌≡◌, ◌∙◌, set, take, drop, ap, sym, arith, to_z, of_z}
use Rattle.std.specs.Int.{w128}
use Rattle.qs_questions.proofs.Common.{to_z-of_z}
use Rattle.qs_questions.specs.Noting.{AreBelow, StartsAbove, StartsFrom}
use Rattle.qs_questions.proofs.Noting.{noted_again, noted_first, starts_above, starts_nowhere}
use Rattle.qs_questions.proofs.sums.note.Goals.{then-place-len+else-is_of, else-place-len}
use Rattle.qs_questions.proofs.sums.note.Goals as goal

pub returns-then-is_of : goal.returns-then-is_of
returns-then-is_of c =
    let xs = c.args.values.now.items in
    let i = c.place_of-place.result in
    let x = c.index-listed.result.now in
    let v : to_z w128 (of_z w128 c.args.value) ≡ c.args.value = to_z-of_z w128 c.args.value c.ranges.value in
    let below : AreBelow c.args.value (take i xs) = rw (c.as_slice.ensures.value, v) at c.place_of-place.ensures.below in
    let same : x.value ≡ c.args.value = c.is_of.ensures.same.0 c.if-is_of.true ∙ v in
    record {
      noted = noted_again c.args.value c.args.end xs _ i below x (omega arith) c.index-listed.ensures same (ap (set xs i) c.with_more.ensures.more);
    }

pub returns : goal.returns
returns c =
    let xs = c.args.values.now.items in
    let i = c.place_of-place.result in
    let v : to_z w128 (of_z w128 c.args.value) ≡ c.args.value = to_z-of_z w128 c.args.value c.ranges.value in
    let below : AreBelow c.args.value (take i xs) = rw (c.as_slice.ensures.value, v) at c.place_of-place.ensures.below in
    let from : StartsFrom c.args.value (drop i xs) = rw (c.as_slice.ensures.value, v) at c.place_of-place.ensures.from in
    let above : StartsAbove c.args.value (drop i xs) = elim c.if-place-len.branch [
      | then-place-len+else-is_of w ↦
          starts_above c.args.value xs i w.index-listed.result.now (omega arith) w.index-listed.ensures from
          (λ e. cc (w.is_of.ensures.same.1 (e ∙ sym v), w.if-is_of.false))
      | else-place-len w ↦ starts_nowhere c.args.value xs i (omega arith)
    ] in
    record { noted = noted_first c.args.value c.args.end xs _ i below above (rw v at c.in_ok-insert.ensures.items) }
