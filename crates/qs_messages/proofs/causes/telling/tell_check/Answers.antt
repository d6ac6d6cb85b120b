use Rattle.std.proofs.Common.{List, subst, sym}
use Rattle.std.proofs.lemmas.Result.{on_ok_weaker}
use Rattle.qs_script.specs.declared.tree.tree.Item.{Item}
use Rattle.qs_script.proofs.ReadTexts.{one_script}
use Rattle.qs_messages.specs.CheckTold.{IsRefusalTold}
use Rattle.qs_messages.proofs.causes.telling.tell_check.Goals as goal

pub returns-in-Ok-clause-told : goal.returns-in-Ok-clause-told
returns-in-Ok-clause-told c =
    let text = c.args.text.now in
    let P : List Item → Type 0 = λ items. IsRefusalTold text items c.args.out.now.items c.tell_script-told.new.out.items in
    on_ok_weaker c.tell_script-told.result (λ (told : P c.in-Ok.script). λ items reads. subst P (sym (one_script text items c.in-Ok.script reads c.in-Ok.ensures.exact)) told) c.tell_script-told.ensures.told
