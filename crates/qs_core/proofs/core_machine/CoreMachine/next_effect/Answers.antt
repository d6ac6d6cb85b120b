use Rattle.std.proofs.Common.{◌<◌, ◌≤◌, ap, length, sym, subst, ◌∙◌, arith}
use Rattle.qs_client.specs.audit.ClientModel.{act_due}
use Rattle.qs_core.proofs.Names.{core_handler_at, handler_with_act, lane_at, core_effect, effect_of_client, effect_of_handler, TurnsTo}
use Rattle.qs_core.specs.state.CoreState.{CoreState, codes_of, core_of, client_part_at}
use Rattle.qs_core.proofs.CoreEffects.{client_does, handler_does, no_client_does, no_handler_does}
use Rattle.qs_core.proofs.shown.CoreReadings.{turns_in}
use Rattle.qs_core.proofs.core_machine.CoreMachine.next_effect.Goals as goal

pub handler_effect-requires-clause-turns : goal.handler_effect-requires-clause-turns
handler_effect-requires-clause-turns c =
    let s = c.args.self.now in
    let h = c.in-Handler.handler in
    let clients = c.deref-then-from-len-2.ensures.value ∙ ap (λ (x : CoreState). x.clients) c.self.view_is in
    let handlers = c.deref-then-from-len-2-2.ensures.value ∙ ap (λ (x : CoreState). x.handlers) c.self.view_is in
    let inside : h < length s.handlers = grind (arith, c.if-from-len-2.true, c.from-in-Handler.ensures, c.len-in-Handler.ensures, c.self.inside.handlers.ok, ap (λ (x : CoreState). length x.handlers) c.self.view_is) in
    subst (λ cs. TurnsTo cs (core_handler_at c.deref-then-from-len-2-2.result.now h)) (sym clients)
    (subst (λ hs. TurnsTo s.clients (core_handler_at hs h)) (sym handlers) (turns_in s c.keeps_machine.ensures.state c.requires.keeps h inside))

pub returns-then-from-len : goal.returns-then-from-len
returns-then-from-len c =
    let s = c.args.self.now in
    let n = c.in-Client.client in
    let clients = c.deref.ensures.value ∙ ap (λ (x : CoreState). x.clients) c.self.view_is in
    let inside : n < length s.clients = grind (arith, c.if-from-len.true, c.from.ensures, c.len.ensures, c.self.inside.clients.ok, ap (λ (x : CoreState). length x.clients) c.self.view_is) in
    record {
      value = c.client_effect.ensures.value
          ∙ ap (λ cs. effect_of_client n (client_part_at cs n).mind.client.begun (act_due (client_part_at cs n).mind)) clients
          ∙ sym (client_does s c.keeps_machine.ensures.state n inside)
          ∙ ap (core_effect (codes_of s) s.size (core_of s)) (sym c.in-Client.is);
    }

pub returns-else-from-len : goal.returns-else-from-len
returns-else-from-len c =
    let s = c.args.self.now in
    let n = c.in-Client.client in
    let out : length s.clients ≤ n = grind (arith, c.if-from-len.false, c.from.ensures, c.len.ensures, c.self.inside.clients.ok, ap (λ (x : CoreState). length x.clients) c.self.view_is) in
    record { value = no_client_does s c.keeps_machine.ensures.state c.requires.keeps n out ∙ ap (core_effect (codes_of s) s.size (core_of s)) (sym c.in-Client.is) }

pub returns-then-from-len-2 : goal.returns-then-from-len-2
returns-then-from-len-2 c =
    let s = c.args.self.now in
    let h = c.in-Handler.handler in
    let clients = c.deref-then-from-len-2.ensures.value ∙ ap (λ (x : CoreState). x.clients) c.self.view_is in
    let handlers = c.deref-then-from-len-2-2.ensures.value ∙ ap (λ (x : CoreState). x.handlers) c.self.view_is in
    let inside : h < length s.handlers = grind (arith, c.if-from-len-2.true, c.from-in-Handler.ensures, c.len-in-Handler.ensures, c.self.inside.handlers.ok, ap (λ (x : CoreState). length x.handlers) c.self.view_is) in
    record {
      value = c.handler_effect.ensures.value
          ∙ (λ k. effect_of_handler (core_handler_at (handlers k) h).tickets (λ n. (lane_at (client_part_at (clients k) n).lanes h).down) (handler_with_act (core_handler_at (handlers k) h)))
          ∙ sym (handler_does s c.keeps_machine.ensures.state h inside)
          ∙ ap (core_effect (codes_of s) s.size (core_of s)) (sym c.in-Handler.is);
    }

pub returns-else-from-len-2 : goal.returns-else-from-len-2
returns-else-from-len-2 c =
    let s = c.args.self.now in
    let h = c.in-Handler.handler in
    let out : length s.handlers ≤ h = grind (arith, c.if-from-len-2.false, c.from-in-Handler.ensures, c.len-in-Handler.ensures, c.self.inside.handlers.ok, ap (λ (x : CoreState). length x.handlers) c.self.view_is) in
    record { value = no_handler_does s c.keeps_machine.ensures.state c.requires.keeps h out ∙ ap (core_effect (codes_of s) s.size (core_of s)) (sym c.in-Handler.is) }
