use Rattle.std.proofs.Common.{Vec, Global, ℕ}
use Rattle.qs_text.specs.TellApart.{IsEndOfWords}
use Rattle.qs_text.proofs.Joined.{one_made_more}
use Rattle.qs_json.specs.EndsJson.{end_json}
use Rattle.qs_json.proofs.ends.json_of_all.Goals as goal

pub loop-standing-preserved : goal.loop-standing-preserved
loop-standing-preserved c =
    let p = c.args.program.now in
    one_made_more (λ (text : Vec ℕ Global). text.items) (end_json p) (IsEndOfWords p) c.args.found.now c.loop-standing.standing-index c.standing-item.result _ _ _
    c.loop-standing-test.true c.standing-item.is c.in_ok-push.ensures.items c.in_ok-json_of_end.ensures.text c.in_ok-json_of_end.ensures.words c.loop-standing.invariant
