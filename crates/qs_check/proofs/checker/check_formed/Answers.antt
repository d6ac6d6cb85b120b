use Rattle.qs_check.specs.Checked.{shape_of}
use Rattle.qs_check.proofs.SoundTexts.{sound_text}
use Rattle.qs_check.proofs.checker.check_formed.Goals as goal

pub sized-requires : goal.sized-requires
sized-requires c =
    let text = c.in_ok-resolved.ensures.text in
    record { sound = sound_text c.args.items.now (shape_of c.in_ok-resolved.resolved) c.requires.form text.0 text.1 }
