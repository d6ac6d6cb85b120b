use Rattle.qs_alike.proofs.SettingApart.{all_apart, set_apart, still_classes}
use Rattle.qs_alike.proofs.apart.classes_apart.Goals as goal

pub returns : goal.returns
returns c =
    let few = c.keeps_sound.ensures.sound.clients in
    let split = all_apart _ _ _ _ c.loop-client-test.false c.loop-client.invariant.upto in
    record {
      classes = still_classes _ _ _ _ few c.requires.classes split;
      set_apart = set_apart _ _ _ _ few c.requires.classes split;
    }
