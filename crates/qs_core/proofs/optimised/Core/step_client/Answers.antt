use Rattle.std.proofs.Common.{◌<◌, length, ap, arith, sym, subst, ◌∙◌, Some, None}
use Rattle.qs_program.specs.Sound.{IsSound}
use Rattle.qs_played.specs.declared.schedule.actor.Actor.TheVariants as actors
use Rattle.qs_core.specs.state.CoreState.{CoreState}
use Rattle.qs_core.proofs.state.CoreReaching.{core_goes_on, core_keeps, core_next}
use Rattle.qs_core.proofs.CorePlaces.{wanted_inside}
use Rattle.qs_core.proofs.state.StuckActors.{client_rests, client_stepped}
use Rattle.qs_core.proofs.optimised.Core.step_client.Goals as goal

pub step_client-requires-clause-keeps : goal.step_client-requires-clause-keeps
step_client-requires-clause-keeps c = core_keeps c.self.inside.machine (subst IsSound c.program.ensures.value c.keeps_sound.ensures.sound) c.keeps_machine.ensures.state c.self.invariant.0

pub step_client-requires-clause-on : goal.step_client-requires-clause-on
step_client-requires-clause-on c = core_goes_on c.self.inside.machine (subst IsSound c.program.ensures.value c.keeps_sound.ensures.sound) c.keeps_machine.ensures.state c.self.invariant.0

pub put_handler-requires : goal.put_handler-requires
put_handler-requires c =
    let s = c.self.inside.machine in
    let sound = subst IsSound c.program.ensures.value c.keeps_sound.ensures.sound in
    let inside : c.args.client < length s.clients = omega (arith, c.requires, c.keeps_machine.ensures.state.clients, ap (λ (x : CoreState). length x.program.clients) c.self.view_is) in
    let keeps = core_keeps s sound c.keeps_machine.ensures.state c.self.invariant.0 in
    let turned = sym c.lane_of-lane.ensures.value ∙ c.in-Some.is in
    omega (arith, wanted_inside s c.keeps_machine.ensures.state c.args.client inside keeps c.in-Some.handler turned, sound.objects)

pub invariant_of-self : goal.invariant_of-self
invariant_of-self c =
    let s = c.self.inside.machine in
    let it = c.step_client in
    let no = c.if-not-step_client.true in (
      core_next s it.new.self (actors.Client c.args.client) it.result c.self.invariant.0 it.ensures.steps it.ensures.unchanged,
      client_rests c.self.inside.stuck c.put_client.new.self s it.new.self c.self.invariant.1 c.args.client (it.ensures.none no) (it.ensures.unchanged no) c.put_client.ensures.put c.put_client.ensures.others,
    )

pub invariant_of-self-in-Some : goal.invariant_of-self-in-Some
invariant_of-self-in-Some c =
    let s = c.self.inside.machine in
    let it = c.step_client in
    let free = sym c.has_client.ensures.value ∙ c.if-has_client.false in (
      core_next s it.new.self (actors.Client c.args.client) it.result c.self.invariant.0 it.ensures.steps it.ensures.unchanged,
      client_stepped c.self.inside.stuck c.put_handler.new.self s it.new.self c.self.invariant.1 c.args.client c.if-not-step_client.ensures.steps free (Some c.in-Some.handler) (sym c.in-Some.is ∙ c.lane_of-lane.ensures.value)
          c.put_handler.ensures.others c.put_handler.ensures.put,
    )

pub invariant_of-self-in-None : goal.invariant_of-self-in-None
invariant_of-self-in-None c =
    let s = c.self.inside.machine in
    let it = c.step_client in
    let free = sym c.has_client.ensures.value ∙ c.if-has_client.false in (
      core_next s it.new.self (actors.Client c.args.client) it.result c.self.invariant.0 it.ensures.steps it.ensures.unchanged,
      client_stepped c.self.inside.stuck c.wake_handlers.new.self s it.new.self c.self.invariant.1 c.args.client c.if-not-step_client.ensures.steps free None (sym c.in-None.is ∙ c.lane_of-lane.ensures.value)
          c.wake_handlers.ensures.others c.wake_handlers.ensures.none,
    )
