use Rattle.std.proofs.Common.{Vec, Global, ℕ}
use Rattle.qs_text.specs.TellApart.{IsEndOfWords}
use Rattle.qs_text.proofs.Joined.{one_made_more}
use Rattle.qs_report.specs.EndsText.{end_text}
use Rattle.qs_report.proofs.ends.texts_of_ends.Goals as goal

pub loop-standing-preserved : goal.loop-standing-preserved
loop-standing-preserved c =
    let p = c.args.program.now in
    one_made_more (λ (text : Vec ℕ Global). text.items) (end_text p) (IsEndOfWords p) c.args.found.now c.loop-standing.standing-index c.standing-item.result _ _ _
    c.loop-standing-test.true c.standing-item.is c.in_ok-push.ensures.items c.in_ok-text_of_end.ensures.text c.in_ok-text_of_end.ensures.words c.loop-standing.invariant
