use Rattle.std.proofs.Common.{◌≡◌, ◌∙◌, ◌+◌, ◌∷◌, ◌++◌, [], List, Vec, map, take, ap, subst, sym}
use Rattle.std.proofs.lemmas.List.{take_more}
use Rattle.std.specs.Global.{Global}
use Rattle.std.specs.Prelude.{IsOkAnd}
use Rattle.qs_levels.proofs.meaning.Lists.{has_at, map_snoc, mapped_has}
use Rattle.qs_line.specs.audit.Named.{clients_of}
use Rattle.qs_line.specs.declared.parts.Part.{Part}
use Rattle.qs_serve.specs.Due.{AreFrontsTexts, IsFaultOfOrder, IsFrontsText}
use Rattle.qs_serve.proofs.FrontsDues.{due_by_fault, texts_more}
use Rattle.qs_serve.proofs.fronts.due_of_fronts.Goals as goal

abbrev parts : Vec Part Global → List Part
parts order = order.items

pub returns-in-Err-clause-due : goal.returns-in-Err-clause-due
returns-in-Err-clause-due c =
    let orders = c.args.orders.now in
    let order = c.order-item.result in
    due_by_fault c.args.format c.args.program.now c.args.blocks c.args.limit (map parts orders) order.items c.in-Err.fault
    (λ P here. mapped_has parts P orders (has_at (λ v. P v.items) orders c.loop-order.order-index order c.loop-order-test.true c.order-item.is here))
    (subst (λ own. IsFaultOfOrder c.args.program.now c.args.blocks c.args.limit own c.in-Err.fault) c.as_slice.ensures.value c.in-Err.ensures.fault)

pub loop-order-preserved : goal.loop-order-preserved
loop-order-preserved c =
    let how = c.args.format in
    let p = c.args.program.now in
    let blocks = c.args.blocks in
    let orders = c.args.orders.now in
    let i = c.loop-order.order-index in
    let order = c.order-item.result in
    let front : take (i + 1) orders ≡ take i orders ++ order ∷ [] =
    take_more orders i order c.loop-order-test.true ∙ ap (λ v. take i orders ++ v ∷ []) (sym c.order-item.is) in
    subst (λ os. AreFrontsTexts how p blocks os c.add.new.text.items) (sym (ap (map parts) front ∙ map_snoc parts (take i orders) order))
    (subst (AreFrontsTexts how p blocks (map parts (take i orders) ++ order.items ∷ [])) (sym c.in-Ok-add.ensures.added)
    (texts_more how p blocks (map parts (take i orders)) order.items c.loop-order.text.items c.in-Ok.own.items c.loop-order.invariant
    (subst (λ own. IsOkAnd (clients_of p own) (λ clients. IsFrontsText how p blocks clients c.in-Ok.own.items)) c.as_slice.ensures.value c.in-Ok.ensures.text)))
