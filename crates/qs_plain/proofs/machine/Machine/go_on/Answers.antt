use Rattle.std.proofs.Common.{◌≡◌, ◌<◌, ◌≤◌, ℕ, ◌+◌, ◌-◌, ◌==◌, if◌then◌else◌, [], true, Some, length, ap, sym, subst, ◌∙◌, arith, refl, rules}
use Rattle.qs_played.proofs.Names.{set, Ticket, BlockShape, block_at, is_in, IsSound, request_of, ticket}
use Rattle.qs_played.specs.declared.schedule.actor.Actor.TheVariants as actor
use Rattle.qs_plain_laws.specs.declared.item.QueueItem.TheVariants as item
use Rattle.qs_plain.proofs.Names.{AsksNext, ClientState, IsClient, client_state_at, current_block, load_left, plain_effect, CanLog, logged_at, IsRules, RulesState, plain_of, to_come, last_ticket}
use Rattle.qs_plain.specs.declared.client.client.Asked.TheVariants as asked
use Rattle.qs_plain.specs.declared.client.stage.Stage.TheVariants as stage
use Rattle.qs_plain.specs.declared.handler.effect.Effect.TheVariants as effects
use Rattle.qs_plain.specs.declared.did.Did.TheVariants as dids
use Rattle.qs_plain.proofs.RulesEffects.{effect_is_read, effect_within}
use Rattle.qs_plain.proofs.RulesGo.{can_log, can_log_all, moved_to_come, asked_kept, ended_kept, command_steps, query_steps, end_steps}
use Rattle.qs_plain.proofs.RulesFieldLemmas.{within_of, stage_of, here_of, made_kept, made_steps, can_log_all_of, logged_all_of}
use Rattle.qs_plain.proofs.machine.Machine.go_on.Goals.{After-begun}
use Rattle.qs_plain.proofs.machine.Machine.go_on.Goals as goal

-- the machine as its fields are
abbrev state_of : After-begun → RulesState
state_of c = record { program = c.self.inside.program.now; order = c.self.inside.order.items; clients = c.self.inside.clients.items; handlers = c.self.inside.handlers.items }

-- What is known of the client that goes on, once it has been read: it stands in a block, and its number of begun blocks
-- says which.
record Known (c : After-begun) : Type 0 where
  pub kept : IsRules (state_of c)
  pub sound : IsSound (state_of c).program
  pub less : c.args.number < length (state_of c).clients
  pub here : c.index_mut-client.result.now ≡ client_state_at (state_of c).clients c.args.number
  pub isc : IsClient (client_state_at (state_of c).clients c.args.number)
  pub stays : (client_state_at (state_of c).clients c.args.number).stage ≡ stage.Within
  pub now : ticket c.args.number (c.begun.result - 1) ≡ ticket c.args.number (length (client_state_at (state_of c).clients c.args.number).entries - 1)

known : (c : After-begun) → Known c
known c = search (rules, within_of, here_of, stage_of)

pub log_command-requires : goal.log_command-requires
log_command-requires c =
    let k = known (goal.at.log_command-requires c).After-begun in
    let object = c.in-Command.call.now.object in
    let member = subst (λ d. is_in (current_block d).reserved object ≡ true) k.here c.in-Command.ensures.reserves in
    subst (λ t. CanLog t c.self.inside.handlers.items object) (sym k.now) (can_log _ k.kept k.sound c.args.number k.less k.isc k.stays object member)

pub invariant_of-self : goal.invariant_of-self
invariant_of-self c =
    let k = known (goal.at.invariant_of-self c).After-begun in
    let r = state_of (goal.at.invariant_of-self c).After-begun in
    let call = c.in-Command.call in
    let object = call.now.object in
    let new = c.ask.new.self in
    let goes = subst (λ d. AsksNext (asked.Command call) d new) k.here c.in-Command.ensures.goes in
    let member = subst (λ d. is_in (current_block d).reserved object ≡ true) k.here c.in-Command.ensures.reserves in
    let load = subst (λ (d : ClientState). (k : ℕ) → (if object == k then 1 else 0) + load_left new.frames k ≤ load_left d.frames k) k.here c.in-Command.ensures.load in
    let same = c.log_command.ensures.logged ∙ (λ i. logged_at (k.now i) (item.Command (c.request-request.ensures.value i)) c.self.inside.handlers.items object) in (
      made_kept r c.self.inside.order.items c.args.number c.from.result new _ c.log_command.new.handlers.items c.from.ensures same
          (asked_kept r k.kept k.sound c.args.number k.less k.isc k.stays stage.Within new.locals new.frames _ _ new goes.1 object member (item.Command (request_of new.locals call.now)) load),
      omega (arith, c.self.invariant.1, moved_to_come r k.kept k.sound c.args.number k.less k.isc k.stays stage.Within new.locals new.frames _ _ new goes.1, ap (λ n. to_come (set c.self.inside.clients.items n new)) c.from.ensures),
    )

pub log_query-requires : goal.log_query-requires
log_query-requires c =
    let k = known (goal.at.log_query-requires c).After-begun in
    let object = c.in-Query.call.now.object in
    let member = subst (λ d. is_in (current_block d).reserved object ≡ true) k.here c.in-Query.ensures.reserves in
    subst (λ t. CanLog t c.self.inside.handlers.items object) (sym k.now) (can_log _ k.kept k.sound c.args.number k.less k.isc k.stays object member)

pub invariant_of-self-in-Query : goal.invariant_of-self-in-Query
invariant_of-self-in-Query c =
    let k = known (goal.at.invariant_of-self-in-Query c).After-begun in
    let r = state_of (goal.at.invariant_of-self-in-Query c).After-begun in
    let call = c.in-Query.call in
    let object = call.now.object in
    let new = c.ask.new.self in
    let goes = subst (λ d. AsksNext (asked.Query call) d new) k.here c.in-Query.ensures.goes in
    let member = subst (λ d. is_in (current_block d).reserved object ≡ true) k.here c.in-Query.ensures.reserves in
    let load = subst (λ (d : ClientState). (k : ℕ) → (if object == k then 1 else 0) + load_left new.frames k ≤ load_left d.frames k) k.here c.in-Query.ensures.load in
    let same = c.log_query.ensures.logged ∙ (λ i. logged_at (k.now i) (item.Query (c.request-request-in-Query.ensures.value i)) c.self.inside.handlers.items object) in (
      made_kept r c.self.inside.order.items c.args.number c.from.result new _ c.log_query.new.handlers.items c.from.ensures same
          (asked_kept r k.kept k.sound c.args.number k.less k.isc k.stays (stage.Waiting goes.0) new.locals new.frames _ _ new goes.2 object member (item.Query (request_of new.locals call.now)) load),
      omega (arith, c.self.invariant.1, moved_to_come r k.kept k.sound c.args.number k.less k.isc k.stays (stage.Waiting goes.0) new.locals new.frames _ _ new goes.2, ap (λ n. to_come (set c.self.inside.clients.items n new)) c.from.ensures),
    )

pub log_all-requires : goal.log_all-requires
log_all-requires c =
    let k = known (goal.at.log_all-requires c).After-begun in
    let block = c.reserved.ensures.value ∙ ap (λ (b : BlockShape). b.reserved) (c.block-block.ensures.value ∙ ap (λ (t : Ticket). block_at c.self.inside.program.now c.args.number t.index) k.now) in
    can_log_all_of _ _ c.self.inside.handlers.items _ _ k.now block (can_log_all _ k.kept k.sound c.args.number k.less k.isc k.stays)

pub invariant_of-self-in-End : goal.invariant_of-self-in-End
invariant_of-self-in-End c =
    let k = known (goal.at.invariant_of-self-in-End c).After-begun in
    let r = state_of (goal.at.invariant_of-self-in-End c).After-begun in
    let block = c.reserved.ensures.value ∙ ap (λ (b : BlockShape). b.reserved) (c.block-block.ensures.value ∙ ap (λ (t : Ticket). block_at c.self.inside.program.now c.args.number t.index) k.now) in
    let new = c.ask.new.self in
    let goes = subst (λ d. AsksNext asked.End d new) k.here c.in-End.ensures.goes in
    let same = logged_all_of _ _ item.EndMark c.self.inside.handlers.items c.log_all.new.handlers.items _ _ k.now block c.log_all.ensures.logged in (
      made_kept r c.self.inside.order.items c.args.number c.from.result new _ c.log_all.new.handlers.items c.from.ensures same (ended_kept r k.kept k.sound c.args.number k.less k.isc k.stays new.locals new goes.1),
      omega (arith, c.self.invariant.1, moved_to_come r k.kept k.sound c.args.number k.less k.isc k.stays stage.Out new.locals [] _ _ new goes.1, ap (λ n. to_come (set c.self.inside.clients.items n new)) c.from.ensures),
    )

pub returns-in-Command : goal.returns-in-Command
returns-in-Command c =
    let k = known (goal.at.returns-in-Command c).After-begun in
    let r = state_of (goal.at.returns-in-Command c).After-begun in
    let call = c.in-Command.call in
    let new = c.ask.new.self in
    let request = request_of new.locals call.now in
    let goes = subst (λ d. AsksNext (asked.Command call) d new) k.here c.in-Command.ensures.goes in
    let same = c.log_command.ensures.logged ∙ (λ i. logged_at (k.now i) (item.Command (c.request-request.ensures.value i)) c.self.inside.handlers.items call.now.object) in
    let effect = subst (λ (x : RulesState). plain_effect (plain_of x) (actor.Client c.args.number) ≡ Some (effects.Logs request)) c.self.view_is (effect_within r c.args.number _ k.stays goes.0) in
    record {
      steps = (
        made_steps r _ (actor.Client c.args.number) _ _ c.args.number c.from.result new _ c.log_command.new.handlers.items c.self.view_is c.from.ensures same refl (command_steps r k.kept k.sound c.args.number k.less k.isc k.stays request new.locals new.frames new goes.0 goes.1),
        ap (λ (x : RulesState). x.program) c.self.view_is,
      );
      stepped = refl;
      done = effect_is_read (dids.Logged call) _ r c.self.inside.order.items c.args.number c.from.result new c.log_command.new.handlers.items c.from.ensures k.less c.in-Command.ensures.short effect;
    }

pub returns-in-Query : goal.returns-in-Query
returns-in-Query c =
    let k = known (goal.at.returns-in-Query c).After-begun in
    let r = state_of (goal.at.returns-in-Query c).After-begun in
    let call = c.in-Query.call in
    let new = c.ask.new.self in
    let request = request_of new.locals call.now in
    let goes = subst (λ d. AsksNext (asked.Query call) d new) k.here c.in-Query.ensures.goes in
    let same = c.log_query.ensures.logged ∙ (λ i. logged_at (k.now i) (item.Query (c.request-request-in-Query.ensures.value i)) c.self.inside.handlers.items call.now.object) in
    let effect = subst (λ (x : RulesState). plain_effect (plain_of x) (actor.Client c.args.number) ≡ Some (effects.Asks request)) c.self.view_is (effect_within r c.args.number _ k.stays goes.1) in
    record {
      steps = (
        made_steps r _ (actor.Client c.args.number) _ _ c.args.number c.from.result new _ c.log_query.new.handlers.items c.self.view_is c.from.ensures same refl (query_steps r k.kept k.sound c.args.number k.less k.isc k.stays request goes.0 new.locals new.frames new goes.1 goes.2),
        ap (λ (x : RulesState). x.program) c.self.view_is,
      );
      stepped = refl;
      done = effect_is_read (dids.Asked call) _ r c.self.inside.order.items c.args.number c.from.result new c.log_query.new.handlers.items c.from.ensures k.less c.in-Query.ensures.short effect;
    }

pub returns-in-End : goal.returns-in-End
returns-in-End c =
    let k = known (goal.at.returns-in-End c).After-begun in
    let r = state_of (goal.at.returns-in-End c).After-begun in
    let block = c.reserved.ensures.value ∙ ap (λ (b : BlockShape). b.reserved) (c.block-block.ensures.value ∙ ap (λ (t : Ticket). block_at c.self.inside.program.now c.args.number t.index) k.now) in
    let new = c.ask.new.self in
    let goes = subst (λ d. AsksNext asked.End d new) k.here c.in-End.ensures.goes in
    let same = logged_all_of _ _ item.EndMark c.self.inside.handlers.items c.log_all.new.handlers.items _ _ k.now block c.log_all.ensures.logged in
    let effect = subst (λ (x : RulesState). plain_effect (plain_of x) (actor.Client c.args.number) ≡ Some (effects.Ends (last_ticket c.args.number new))) c.self.view_is
    (effect_within r c.args.number _ k.stays goes.0 ∙ ap (λ (d : ClientState). Some (effects.Ends (last_ticket c.args.number d))) (sym goes.1)) in
    record {
      steps = (
        made_steps r _ (actor.Client c.args.number) _ _ c.args.number c.from.result new _ c.log_all.new.handlers.items c.self.view_is c.from.ensures same refl (end_steps r k.kept k.sound c.args.number k.less k.isc k.stays new.locals new goes.0 goes.1),
        ap (λ (x : RulesState). x.program) c.self.view_is,
      );
      stepped = refl;
      done = effect_is_read dids.Ended _ r c.self.inside.order.items c.args.number c.from.result new c.log_all.new.handlers.items c.from.ensures k.less tt effect;
    }
