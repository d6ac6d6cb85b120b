use Rattle.std.proofs.Common.{◌≡◌, ◌<◌, ◌≤◌, ap, length, sym, subst, ◌∙◌, arith}
use Rattle.std.specs.Prelude.{IfOk}
use Rattle.qs_client.specs.audit.ClientModel.{act_due}
use Rattle.qs_core.proofs.Names.{sent_requests, core_handler_at, handler_with_act, lane_at, core_requests, requests_of_handler, TurnsTo}
use Rattle.qs_core.specs.state.CoreState.{CoreState, codes_of, core_of, client_part_at}
use Rattle.qs_core.proofs.CoreEffects.{client_sends, handler_takes, no_client_sends, no_handler_takes}
use Rattle.qs_core.proofs.shown.CoreReadings.{turns_in}
use Rattle.qs_core.proofs.core_machine.CoreMachine.requests.Goals as goal

pub handler_requests-requires-clause-turns : goal.handler_requests-requires-clause-turns
handler_requests-requires-clause-turns c =
    let s = c.args.self.now in
    let h = c.in-Handler.handler in
    let clients = ap (λ (x : CoreState). x.clients) c.self.view_is in
    let handlers = c.deref.ensures.value ∙ ap (λ (x : CoreState). x.handlers) c.self.view_is in
    let inside : h < length s.handlers = grind (arith, c.if-from-len-2.true, c.from-in-Handler.ensures, c.len-in-Handler.ensures, c.self.inside.handlers.ok, ap (λ (x : CoreState). length x.handlers) c.self.view_is) in
    subst (λ cs. TurnsTo cs (core_handler_at c.deref.result.now h)) (sym clients)
    (subst (λ hs. TurnsTo s.clients (core_handler_at hs h)) (sym handlers) (turns_in s c.keeps_machine.ensures.state c.requires.keeps h inside))

pub returns-then-from-len-clause-value : goal.returns-then-from-len-clause-value
returns-then-from-len-clause-value c =
    let s = c.args.self.now in
    let n = c.in-Client.client in
    let clients = ap (λ (x : CoreState). x.clients) c.self.view_is in
    let inside : n < length s.clients = grind (arith, c.if-from-len.true, c.from.ensures, c.len.ensures, c.self.inside.clients.ok, ap (λ (x : CoreState). length x.clients) c.self.view_is) in
    subst (λ rs. IfOk c.client_requests.result (λ requests. requests.items ≡ rs))
    (ap (λ cs. sent_requests (act_due (client_part_at cs n).mind)) clients ∙ sym (client_sends s c.keeps_machine.ensures.state n inside) ∙ ap (core_requests (codes_of s) s.size (core_of s)) (sym c.in-Client.is))
    c.client_requests.ensures.value

pub returns-else-from-len-clause-value : goal.returns-else-from-len-clause-value
returns-else-from-len-clause-value c =
    let s = c.args.self.now in
    let n = c.in-Client.client in
    let out : length s.clients ≤ n = grind (arith, c.if-from-len.false, c.from.ensures, c.len.ensures, c.self.inside.clients.ok, ap (λ (x : CoreState). length x.clients) c.self.view_is) in
    c.new.ensures.items ∙ no_client_sends s c.keeps_machine.ensures.state c.requires.keeps n out ∙ ap (core_requests (codes_of s) s.size (core_of s)) (sym c.in-Client.is)

pub returns-then-from-len-2-clause-value : goal.returns-then-from-len-2-clause-value
returns-then-from-len-2-clause-value c =
    let s = c.args.self.now in
    let h = c.in-Handler.handler in
    let clients = ap (λ (x : CoreState). x.clients) c.self.view_is in
    let handlers = c.deref.ensures.value ∙ ap (λ (x : CoreState). x.handlers) c.self.view_is in
    let inside : h < length s.handlers = grind (arith, c.if-from-len-2.true, c.from-in-Handler.ensures, c.len-in-Handler.ensures, c.self.inside.handlers.ok, ap (λ (x : CoreState). length x.handlers) c.self.view_is) in
    subst (λ rs. IfOk c.handler_requests.result (λ requests. requests.items ≡ rs))
    ((λ k. requests_of_handler (λ n. (lane_at (client_part_at (clients k) n).lanes h).down) (handler_with_act (core_handler_at (handlers k) h))) ∙ sym (handler_takes s c.keeps_machine.ensures.state h inside)
    ∙ ap (core_requests (codes_of s) s.size (core_of s)) (sym c.in-Handler.is))
    c.handler_requests.ensures.value

pub returns-else-from-len-2-clause-value : goal.returns-else-from-len-2-clause-value
returns-else-from-len-2-clause-value c =
    let s = c.args.self.now in
    let h = c.in-Handler.handler in
    let out : length s.handlers ≤ h = grind (arith, c.if-from-len-2.false, c.from-in-Handler.ensures, c.len-in-Handler.ensures, c.self.inside.handlers.ok, ap (λ (x : CoreState). length x.handlers) c.self.view_is) in
    c.new-else-from-len-2.ensures.items ∙ no_handler_takes s c.keeps_machine.ensures.state c.requires.keeps h out ∙ ap (core_requests (codes_of s) s.size (core_of s)) (sym c.in-Handler.is)
