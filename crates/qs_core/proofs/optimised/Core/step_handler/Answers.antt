use Rattle.std.proofs.Common.{arith, refl, sym, subst, ◌∙◌, Some, None}
use Rattle.qs_program.specs.Sound.{IsSound}
use Rattle.qs_played.specs.declared.schedule.actor.Actor.TheVariants as actors
use Rattle.qs_core.proofs.state.CoreReaching.{core_keeps, core_next}
use Rattle.qs_core.proofs.shown.CoreReadings.{turned_inside}
use Rattle.qs_core.proofs.state.StuckActors.{handler_rests, handler_stepped}
use Rattle.qs_core.proofs.optimised.Core.step_handler.Goals as goal

pub step_handler-requires-clause-keeps : goal.step_handler-requires-clause-keeps
step_handler-requires-clause-keeps c = core_keeps c.self.inside.machine (subst IsSound c.program.ensures.value c.keeps_sound.ensures.sound) c.keeps_machine.ensures.state c.self.invariant.0

pub put_client-requires : goal.put_client-requires
put_client-requires c =
    let s = c.self.inside.machine in
    let sound = subst IsSound c.program.ensures.value c.keeps_sound.ensures.sound in
    let keeps = core_keeps s sound c.keeps_machine.ensures.state c.self.invariant.0 in
    let turned = sym c.client_of-lane.ensures.value ∙ c.in-Some.is in
    omega (arith, turned_inside s keeps c.args.handler c.in-Some.woken turned, sound.clients)

pub invariant_of-self : goal.invariant_of-self
invariant_of-self c =
    let s = c.self.inside.machine in
    let it = c.step_handler in
    let no = c.if-not-step_handler.true in (
      core_next s it.new.self (actors.Handler c.args.handler) it.result c.self.invariant.0 it.ensures.steps it.ensures.unchanged,
      handler_rests c.self.inside.stuck c.put_handler.new.self s it.new.self c.self.invariant.1 c.args.handler (it.ensures.none no) (it.ensures.unchanged no) c.put_handler.ensures.put c.put_handler.ensures.others,
    )

pub invariant_of-self-in-Some : goal.invariant_of-self-in-Some
invariant_of-self-in-Some c =
    let s = c.self.inside.machine in
    let it = c.step_handler in
    let free = sym c.has_handler.ensures.value ∙ c.if-has_handler.false in (
      core_next s it.new.self (actors.Handler c.args.handler) it.result c.self.invariant.0 it.ensures.steps it.ensures.unchanged,
      handler_stepped c.self.inside.stuck c.put_client.new.self s it.new.self c.self.invariant.1 c.args.handler c.if-not-step_handler.ensures.steps free (Some c.in-Some.woken) (sym c.in-Some.is ∙ c.client_of-lane.ensures.value)
          c.put_client.ensures.others c.put_client.ensures.put,
    )

pub invariant_of-self-in-None : goal.invariant_of-self-in-None
invariant_of-self-in-None c =
    let s = c.self.inside.machine in
    let it = c.step_handler in
    let free = sym c.has_handler.ensures.value ∙ c.if-has_handler.false in (
      core_next s it.new.self (actors.Handler c.args.handler) it.result c.self.invariant.0 it.ensures.steps it.ensures.unchanged,
      handler_stepped c.self.inside.stuck c.self.inside.stuck s it.new.self c.self.invariant.1 c.args.handler c.if-not-step_handler.ensures.steps free None (sym c.in-None.is ∙ c.client_of-lane.ensures.value) refl refl,
    )
