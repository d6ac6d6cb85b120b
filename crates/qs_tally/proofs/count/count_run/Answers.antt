use Rattle.std.proofs.Common.{◌≡◌, ◌^◌, Some, length, lit<, refl, slice_get, slice_set, sym, ap, subst, ◌∙◌}
use Rattle.qs_tally.proofs.Common.{rows_in, slice_get_read, slice_get_within}
use Rattle.qs_tally.specs.Counting.{AreTabled, once_more}
use Rattle.qs_tally.specs.Tallies.{CountedShape}
use Rattle.qs_tally.proofs.Counts.{few_between, tabled_more}
use Rattle.qs_tally.proofs.count.count_run.Goals as goal
use Rattle.qs_tally.proofs.count.count_run.Goals.{After-index_mut}

-- the end that is counted once more
here : (c : After-index_mut) → slice_get c.place_of.new.ends.items c.in_ok-place.place ≡ Some c.index_mut.result.now
here c =
    let came = c.in_ok-place.ensures.placed.came in
    slice_get_read c.place_of.new.ends.items (length c.place_of.new.ends.items) c.in_ok-place.place c.index_mut.result.now refl
    (slice_get_within c.place_of.new.ends.items c.in_ok-place.place came.0 came.1) c.index_mut.ensures.value

pub count-requires : goal.count-requires
count-requires c = record {
  few = few_between c.args.program.now c.args.order.now c.in_ok-place.place c.args.ends.now.items c.place_of.new.ends.items (2 ^ 32) (lit< tt) c.requires.few c.in_ok-place.ensures.placed
      c.in_ok-place.place c.index_mut.result.now (here (goal.at.count-requires c).After-index_mut);
}

pub returns : goal.returns
returns c =
    let between = c.place_of.new.ends.items in
    let place = c.in_ok-place.place in
    let at : slice_get between place ≡ Some c.index_mut.result.now = here (goal.at.returns c).After-index_mut in
    record {
      tabled = subst (λ (x : CountedShape). AreTabled c.args.program.now (rows_in c.place_of.new.rows.keys) (slice_set between place x)) (sym c.count.ensures.more)
          (tabled_more c.args.program.now (rows_in c.place_of.new.rows.keys) between place c.index_mut.result.now at c.in_ok-place.ensures.tabled);
      counted = record {
        place = place;
        between = between;
        placed = c.in_ok-place.ensures.placed;
        more = λ e there.
            (let both : Some c.index_mut.result.now ≡ Some e = sym at ∙ there in
            let same : c.index_mut.result.now ≡ e = cc in
            ap (slice_set between place) (c.count.ensures.more ∙ ap once_more same));
      };
    }
