use Rattle.std.proofs.Common.{◌≡◌, ◌<◌, ◌+◌, ◌∙◌, ◌∷◌, add-one, ap, arith, drop, get_or, subst, sym, drop-cons, slice_set}
use Rattle.qs_program.specs.audit.Program.{blocks_of}
use Rattle.qs_serial.proofs.NamedOrders.{IsReadSoFar, counts, read_on}
use Rattle.qs_serial.proofs.orders.names_order.Goals as goal

pub loop-client-preserved : goal.loop-client-preserved
loop-client-preserved c =
    let p = c.args.program.now in
    let cs = c.args.clients.now in
    let i = c.loop-client.client-index in
    let begun = c.loop-client.begun in
    let here = get_or cs i 0 in
    let place : c.from-place.result ≡ here = c.from-place.ensures in
    let now : IsReadSoFar p cs (here ∷ drop (i + 1) cs) begun =
    subst (λ rest. IsReadSoFar p cs rest begun) (drop-cons cs i 0 c.loop-client-test.true ∙ ap (λ n. here ∷ drop n cs) (sym (add-one i))) c.loop-client.invariant in
    let within : here < 8 =
    (let few = c.keeps_sound.ensures.sound.clients in let less = c.if-place-clients.false in omega (arith, few, less, place, c.clients.ensures.value)) in
    let left : counts begun here < blocks_of p here =
    subst (λ k. get_or begun k 0 < blocks_of p here) place
    (let less = c.if-from-blocks_of.false in omega (arith, less, c.from.ensures, c.blocks_of.ensures.value)) in
    read_on p cs here (drop (i + 1) cs) begun now within left _
    (ap (λ k. slice_set begun k (get_or begun k 0 + 1)) place ∙ ap (slice_set begun here) (add-one (get_or begun here 0)))
