use Rattle.qs_text.proofs.Parts.{one_text_more}
use Rattle.qs_json.specs.TallyJson.{counted_json_at}
use Rattle.qs_json.proofs.tallies.put_ends.Goals as goal

pub loop-place-preserved : goal.loop-place-preserved
loop-place-preserved c =
    one_text_more (counted_json_at c.args.program.now c.args.listed c.args.ends.now) c.loop-place.place c.loop-place.invariant (rw c.end_at.ensures.end at c.in_ok-put_end.ensures.ok)
