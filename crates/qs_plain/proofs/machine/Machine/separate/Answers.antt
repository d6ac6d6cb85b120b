use Rattle.std.proofs.Common.{◌≡◌, ◌+◌, ◌-◌, [], ◌∷◌, Some, length, ap, subst, ◌∙◌, arith}
use Rattle.qs_played.proofs.Names.{length-append, set, ticket}
use Rattle.qs_played.specs.declared.schedule.actor.Actor.TheVariants as actor
use Rattle.qs_plain.specs.client.ClientMoves.{Begins}
use Rattle.qs_plain.proofs.Names.{ClientState, IsClient, client_state_at, plain_effect, to_come, RulesState, plain_of, last_ticket}
use Rattle.qs_plain.specs.declared.client.stage.Stage.TheVariants as stage
use Rattle.qs_plain.specs.declared.handler.effect.Effect.TheVariants as effects
use Rattle.qs_plain.specs.declared.did.Did.TheVariants as dids
use Rattle.qs_plain.proofs.RulesEffects.{effect_is_read, effect_out}
use Rattle.qs_plain.proofs.RulesBegin.{can_enter, begun_rules, fewer, separate_steps}
use Rattle.qs_plain.proofs.RulesFieldLemmas.{within_of, stage_of, here_of, made_kept, made_steps, longer_order}
use Rattle.qs_plain.proofs.machine.Machine.separate.Goals as goal

pub enter_all-requires : goal.enter_all-requires
enter_all-requires c =
    let less = within_of _ _ c.args.number c.self.view_is c.requires.number in
    let here = here_of _ c.args.number _ _ c.from.ensures less c.index_mut-client.ensures.value in
    let isc = subst IsClient here c.begun.ensures.kept in
    let out = stage_of _ _ c.args.number stage.Out c.self.view_is c.requires.out in
    let begins = subst (λ d. Begins d c.begin-queues.result.items c.begin-queues.new.self) here c.begin-queues.ensures.begins in
    can_enter _ c.self.invariant.0 c.keeps_sound.ensures.sound c.args.number less isc out c.begin-queues.result.items c.begin-queues.new.self begins

pub invariant_of-self : goal.invariant_of-self
invariant_of-self c =
    let less = within_of _ _ c.args.number c.self.view_is c.requires.number in
    let here = here_of _ c.args.number _ _ c.from.ensures less c.index_mut-client.ensures.value in
    let isc = subst IsClient here c.begun.ensures.kept in
    let out = stage_of _ _ c.args.number stage.Out c.self.view_is c.requires.out in
    let begins = subst (λ d. Begins d c.begin-queues.result.items c.begin-queues.new.self) here c.begin-queues.ensures.begins in
    let one_less = fewer _ c.self.invariant.0 c.keeps_sound.ensures.sound c.args.number less isc out c.begin-queues.result.items c.begin-queues.new.self begins in
    let r : RulesState = record { program = c.self.inside.program.now; order = c.self.inside.order.items; clients = c.self.inside.clients.items; handlers = c.self.inside.handlers.items } in (
      made_kept r c.push_reserved.new.self.items c.args.number c.from.result c.begin-queues.new.self _ c.enter_all.new.handlers.items c.from.ensures c.enter_all.ensures.entered
          (begun_rules _ c.self.invariant.0 c.keeps_sound.ensures.sound c.args.number less isc out c.begin-queues.result.items c.begin-queues.new.self begins c.push_reserved.new.self.items),
      omega (arith, one_less, c.self.invariant.1, c.push_reserved.ensures.len, c.push_reserved.ensures.capacity, ap (λ n. to_come (set c.self.inside.clients.items n c.begin-queues.new.self)) c.from.ensures),
    )

pub returns : goal.returns
returns c =
    let less = within_of _ _ c.args.number c.self.view_is c.requires.number in
    let here = here_of _ c.args.number _ _ c.from.ensures less c.index_mut-client.ensures.value in
    let isc = subst IsClient here c.begun.ensures.kept in
    let out = stage_of _ _ c.args.number stage.Out c.self.view_is c.requires.out in
    let begins = subst (λ d. Begins d c.begin-queues.result.items c.begin-queues.new.self) here c.begin-queues.ensures.begins in
    let r : RulesState = record { program = c.self.inside.program.now; order = c.self.inside.order.items; clients = c.self.inside.clients.items; handlers = c.self.inside.handlers.items } in
    let before = client_state_at r.clients c.args.number in
    let more : length c.begin-queues.new.self.entries ≡ length before.entries + 1 = ap (λ (d : ClientState). length d.entries) begins.client ∙ length-append before.entries (before.locals ∷ []) in
    let last : length before.entries ≡ length c.begin-queues.new.self.entries - 1 = omega (arith, more) in
    let effect = subst (λ (x : RulesState). plain_effect (plain_of x) (actor.Client c.args.number) ≡ Some (effects.Reserves (last_ticket c.args.number c.begin-queues.new.self))) c.self.view_is
    (effect_out r c.args.number out ∙ ap (λ n. Some (effects.Reserves (ticket c.args.number n))) last) in
    record {
      steps = (
        made_steps _ _ (actor.Client c.args.number) _ c.push_reserved.new.self.items c.args.number c.from.result c.begin-queues.new.self _ c.enter_all.new.handlers.items c.self.view_is c.from.ensures c.enter_all.ensures.entered
            (longer_order _ _ _ _ _ _ c.push_reserved.ensures.items c.begun.ensures.value (ap (λ (d : ClientState). length d.entries) here))
            (separate_steps _ c.self.invariant.0 c.keeps_sound.ensures.sound c.args.number less isc out c.begin-queues.result.items c.begin-queues.new.self begins),
        ap (λ (r : RulesState). r.program) c.self.view_is,
      );
      done = effect_is_read dids.Reserved _ r c.push_reserved.new.self.items c.args.number c.from.result c.begin-queues.new.self c.enter_all.new.handlers.items c.from.ensures less tt effect;
    }
