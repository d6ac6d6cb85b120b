use Rattle.std.proofs.Common.{◌≡◌, ◌∙◌, arith, false, subst, true}
use Rattle.qs_program.specs.Sound.{IsSound}
use Rattle.qs_client.specs.audit.ClientModel.{is_between}
use Rattle.qs_core.specs.CoreOrders.{blocks_begun}
use Rattle.qs_core.specs.state.CoreState.{core_of}
use Rattle.qs_core.proofs.CoreBlocks.{begun_is, client_inside, ended_by_stage, few_blocks, fit_of, one_on, stage_is, stands_first, stands_on, turns_fit}
use Rattle.qs_core.proofs.optimised.Core.play_block.Goals as goal

pub overflow_cast-index : goal.overflow_cast-index
overflow_cast-index c =
    let self = c.args.self.now in
    let number = c.begun-index.ensures.value ∙ begun_is c.self.inside.machine self c.args.client c.self.view_is in
    let fit = fit_of c.self.inside.machine self c.self.view_is (subst IsSound c.program.ensures.value c.keeps_sound.ensures.sound) c.keeps_machine.ensures.state c.self.invariant.0 in
    let less = few_blocks self.program c.args.client c.begun-index.result (blocks_begun self c.args.client) fit.sound number c.requires.left in
    omega (arith, less)

pub loop-turn-init : goal.loop-turn-init
loop-turn-init c =
    let self = c.args.self.now in
    let fit = fit_of c.self.inside.machine self c.self.view_is (subst IsSound c.program.ensures.value c.keeps_sound.ensures.sound) c.keeps_machine.ensures.state c.self.invariant.0 in
    stands_first self fit c.requires.quiet c.args.client c.requires.left c.turn.new.self c.turn.ensures.goes

pub has_ended-requires : goal.has_ended-requires
has_ended-requires c =
    let self = c.args.self.now in
    let fit = fit_of c.self.inside.machine self c.self.view_is (subst IsSound c.program.ensures.value c.keeps_sound.ensures.sound) c.keeps_machine.ensures.state c.self.invariant.0 in
    client_inside self fit c.requires.quiet c.args.client c.requires.left c.loop-turn._turn c.self-in-loop-turn.inside.machine c.loop-turn.self c.self-in-loop-turn.view_is
    c.keeps_machine-in-loop-turn.ensures.state c.loop-turn.invariant

pub loop-turn-preserved : goal.loop-turn-preserved
loop-turn-preserved c =
    let self = c.args.self.now in
    let s = c.loop-turn.self in
    let fit = fit_of c.self.inside.machine self c.self.view_is (subst IsSound c.program.ensures.value c.keeps_sound.ensures.sound) c.keeps_machine.ensures.state c.self.invariant.0 in
    let number = c.begun-index.ensures.value ∙ begun_is c.self.inside.machine self c.args.client c.self.view_is in
    let by_stage = ended_by_stage c.self-in-loop-turn.inside.machine s c.args.client c.begun-index.result (blocks_begun self c.args.client) c.has_ended.result c.self-in-loop-turn.view_is number c.has_ended.ensures.value in
    let inside : is_between ((core_of s).client c.args.client).stage ≡ false =
    stage_is self fit c.requires.quiet c.args.client c.requires.left c.loop-turn._turn s c.loop-turn.invariant c.has_ended.result by_stage ∙ c.if-has_ended.false in
    stands_on self fit c.requires.quiet c.args.client c.requires.left c.loop-turn._turn s c.turn-in-loop-turn.new.self c.loop-turn.invariant inside c.turn-in-loop-turn.ensures.goes

pub returns-then-has_ended : goal.returns-then-has_ended
returns-then-has_ended c =
    let self = c.args.self.now in
    let s = c.loop-turn.self in
    let fit = fit_of c.self.inside.machine self c.self.view_is (subst IsSound c.program.ensures.value c.keeps_sound.ensures.sound) c.keeps_machine.ensures.state c.self.invariant.0 in
    let number = c.begun-index.ensures.value ∙ begun_is c.self.inside.machine self c.args.client c.self.view_is in
    let by_stage = ended_by_stage c.self-in-loop-turn.inside.machine s c.args.client c.begun-index.result (blocks_begun self c.args.client) c.has_ended.result c.self-in-loop-turn.view_is number c.has_ended.ensures.value in
    let outside : is_between ((core_of s).client c.args.client).stage ≡ true =
    stage_is self fit c.requires.quiet c.args.client c.requires.left c.loop-turn._turn s c.loop-turn.invariant c.has_ended.result by_stage ∙ c.if-has_ended.true in
    record { on = one_on self fit c.requires.quiet c.args.client c.requires.left c.loop-turn._turn s c.loop-turn.invariant outside }

pub returns : goal.returns
returns c =
    let self = c.args.self.now in
    let fit = fit_of c.self.inside.machine self c.self.view_is (subst IsSound c.program.ensures.value c.keeps_sound.ensures.sound) c.keeps_machine.ensures.state c.self.invariant.0 in
    let few = turns_fit self fit c.requires.quiet c.args.client c.requires.left c.loop-turn._turn c.loop-turn.self c.loop-turn.invariant in
    record { on = absurd (omega (arith, few, c.loop-turn-test.false)) }
