use Rattle.std.proofs.Common.{◌≡◌, ◌↔◌, [], ◌∷◌, ◌++◌, take, refl, subst, IfOk, IsTrue}
use Rattle.qs_script.specs.grammar.FormPlaces.{BeginsScript}
use Rattle.qs_messages.proofs.causes.follow.may_stand.Goals as goal

pub returns : goal.returns
returns c =
    let list : c.as_slice.result.now ≡ take c.args.place c.args.tokens.now.items ++ c.args.token ∷ [] =
    rw (c.as_slice.ensures.value, c.in_ok-push.ensures.items, c.truncate.ensures.items) refl in
    record { exact = subst (λ us. IfOk c.begins_script.result (λ b. IsTrue b ↔ BeginsScript us)) list c.begins_script.ensures.exact }
