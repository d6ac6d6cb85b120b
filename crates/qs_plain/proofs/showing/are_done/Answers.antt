use Rattle.std.proofs.Common.{◌≡◌, ◌&&◌, ◌∙◌, ap, sym, map, drop, ◌+◌, get_or}
use Rattle.qs_plain_laws.proofs.Names.{get_or-any, all_done, is_done}
use Rattle.qs_plain.specs.client.Clients.{ClientState, client_of_state, absent}
use Rattle.qs_plain.proofs.ReadingOff.{done_from}
use Rattle.qs_plain.proofs.showing.are_done.Goals.{then-done, else-done}
use Rattle.qs_plain.proofs.showing.are_done.Goals as goal

pub loop-client-preserved : goal.loop-client-preserved
loop-client-preserved c = λ p own.
    let i = c.loop-client.client-index in
    let later = all_done p (i + 1) (map client_of_state (drop (i + 1) c.args.clients.now)) in
    let here = done_from p c.args.clients.now c.client-item.result i c.loop-client-test.true in
    let place = c.client-item.is ∙ get_or-any c.args.clients.now i c.client-item.result absent c.loop-client-test.true in
    let mine = own i c.loop-client-test.true in
    let program = ap (λ (d : ClientState). d.program) place ∙ mine.0 in
    let number = ap (λ (d : ClientState). d.number) place ∙ mine.1 in
    let test : is_done c.client-item.result.program c.client-item.result.number (client_of_state c.client-item.result) ≡ is_done p i (client_of_state (get_or c.args.clients.now i c.client-item.result)) = λ k. is_done (program k) (number k) (client_of_state (c.client-item.is k)) in
    elim c.if-done.branch [
      | then-done w ↦ ap (λ b. b && later) (w.done-is ∙ w.is_done-done.ensures.value ∙ test) ∙ sym here
          ∙ ap (λ b. b && all_done p i (map client_of_state (drop i c.args.clients.now))) (sym w.if-done.true) ∙ c.loop-client.invariant p own
      | else-done w ↦ ap (λ b. b && later) (w.done-is ∙ w.if-done.false) ∙ ap (λ b. b && all_done p i (map client_of_state (drop i c.args.clients.now))) (sym w.if-done.false) ∙ c.loop-client.invariant p own
    ]
