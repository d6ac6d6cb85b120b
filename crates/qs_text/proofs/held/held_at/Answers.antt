use Rattle.std.proofs.Common.{◌++◌, ℕ, Vec, List, [], ◌∷◌, ap, append-nil, cond, filter, get_or, take, sym, ◌∙◌}
use Rattle.std.specs.Global.{Global}
use Rattle.std.proofs.lemmas.List.Elements.{filter_more}
use Rattle.qs_syncset.specs.held.Table.{has}
use Rattle.qs_text.proofs.held.held_at.Goals as goal
use Rattle.qs_text.proofs.held.held_at.Goals.{then-holds+in_ok-push, else-holds}

pub loop-object-preserved : goal.loop-object-preserved
loop-object-preserved c =
    let objects : List ℕ = c.args.reserved.now in
    let object : ℕ = get_or objects c.loop-object.object-index 0 in
    let is_held = has c.args.sets.now c.args.n in
    let before : List ℕ = filter is_held (take c.loop-object.object-index objects) in
    let more = filter_more is_held objects c.loop-object.object-index 0 c.loop-object-test.true in
    elim c.if-holds.branch [
      | then-holds+in_ok-push w ↦
          ap (λ (v : Vec ℕ Global). v.items) w.held-is ∙ w.in_ok-push.ensures.items ∙ ap (λ l. l ++ object ∷ []) c.loop-object.invariant
          ∙ ap (λ b. before ++ cond b (object ∷ []) []) w.if-holds.ensures.value ∙ sym more
      | else-holds w ↦
          ap (λ (v : Vec ℕ Global). v.items) w.held-is ∙ c.loop-object.invariant ∙ sym (append-nil before)
          ∙ ap (λ b. before ++ cond b (object ∷ []) []) w.if-holds.ensures.value ∙ sym more
    ]
