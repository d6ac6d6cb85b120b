use Rattle.std.proofs.Common.{◌≡◌, ◌∷◌, [], ap, arith, length, subst}
use Rattle.qs_program.specs.audit.Program.{ProgramShape}
use Rattle.qs_played.specs.declared.schedule.actor.Actor.TheVariants as actors
use Rattle.qs_core_laws.specs.orders.CoreQuiet.{two_of_each}
use Rattle.qs_core.proofs.Names.{CoreGoes, CoreState}
use Rattle.qs_core.proofs.CoreGoing.{goes_more, goes_none, goes_twice}
use Rattle.qs_core.proofs.optimised.Core.turn.Goals as goal

pub loop-handler-init : goal.loop-handler-init
loop-handler-init c =
    let self = c.args.self.now in
    let it = c.step-stepped in
    goes_more self self it.new.self [] (actors.Client c.args.client) it.result (goes_none self) it.ensures.steps it.ensures.none it.ensures.unchanged

pub loop-handler-preserved : goal.loop-handler-preserved
loop-handler-preserved c =
    let one = c.step-served in
    let two = c.step-given in
    goes_twice c.args.self.now c.loop-handler.self one.new.self two.new.self c.args.client c.loop-handler.handler one.result two.result c.loop-handler.invariant
    one.ensures.steps one.ensures.none one.ensures.unchanged two.ensures.steps two.ensures.none two.ensures.unchanged

pub returns : goal.returns
returns c =
    let handlers : c.loop-handler.handler ≡ length c.args.self.now.program.objects =
    omega (arith, c.loop-handler.auto.handler-end, c.loop-handler-test.false, c.objects-handlers.ensures.value, ap (λ (q : ProgramShape). length q.objects) c.program-program.ensures.value, ap (λ (s : CoreState). length s.program.objects) c.self.view_is) in
    record { goes = subst (λ n. CoreGoes c.args.self.now (actors.Client c.args.client ∷ two_of_each n) c.loop-handler.self) handlers c.loop-handler.invariant }
