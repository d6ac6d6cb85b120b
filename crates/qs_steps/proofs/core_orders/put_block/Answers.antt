use Rattle.std.proofs.Common.{◌≡◌, ◌<◌, ◌∙◌, ap, arith, length, sym, subst, false, true}
use Rattle.qs_steps.proofs.Names.{ProgramShape, all_named, core_of, core_view, has_ended, is_between, no_block_beyond, one_on, stage_is, stands_first, stands_on, turn_named}
use Rattle.qs_steps.proofs.Names.{turns_fit}
use Rattle.qs_core.specs.CoreOrders.{blocks_begun}
use Rattle.qs_steps.proofs.OrdersTold.{fit_of_reached, gone_none, gone_on, same_program, turn_goes}
use Rattle.qs_steps.proofs.core_orders.put_block.Goals as goal

pub put-requires-clause-named : goal.put-requires-clause-named
put-requires-clause-named c =
    let p = c.args.program.now in
    let inside = no_block_beyond c.args.core.now.program c.args.client (let left = c.requires.left in omega (arith, left)) in
    subst (λ xs. all_named p xs ≡ true) (sym (c.as_slice.ensures.value ∙ c.in_ok-turn.ensures.turn))
    (turn_named p c.args.client (subst (λ (q : ProgramShape). c.args.client < length q.clients) c.requires.own inside))

pub loop-turn-init : goal.loop-turn-init
loop-turn-init c =
    let p = c.args.program.now in
    let first = c.args.core.now in
    let fit = fit_of_reached p first c.keeps_sound.ensures.sound c.requires.reached in
    let on = c.in_ok-put.ensures.on in
    record {
      stands = stands_first first fit c.requires.quiet c.args.client c.requires.left c.put.new.machine
          (turn_goes p first c.put.new.machine c.args.client c.as_slice.result.now c.args.lines.now c.put.new.self c.requires.own (c.as_slice.ensures.value ∙ c.in_ok-turn.ensures.turn) on);
      told = gone_on core_view p c.as_slice.result.now c.args.lines.now first c.args.lines.now first c.put.new.self c.put.new.machine (gone_none core_view p c.args.lines.now first) on;
    }

pub returns-then-has_ended-clause-on : goal.returns-then-has_ended-clause-on
returns-then-has_ended-clause-on c =
    let first = c.args.core.now in
    let s = c.loop-turn.core in
    let fit = fit_of_reached c.args.program.now first c.keeps_sound.ensures.sound c.requires.reached in
    let ended : c.has_ended.result ≡ has_ended ((core_of s).client c.args.client) (blocks_begun first c.args.client) =
    c.has_ended.ensures.value ∙ ap (λ n. has_ended ((core_of s).client c.args.client) n) c.begun-index.ensures.value in
    let outside : is_between ((core_of s).client c.args.client).stage ≡ true =
    stage_is first fit c.requires.quiet c.args.client c.requires.left c.loop-turn._turn s c.loop-turn.invariant.stands c.has_ended.result ended ∙ c.if-has_ended.true in
    one_on first fit c.requires.quiet c.args.client c.requires.left c.loop-turn._turn s c.loop-turn.invariant.stands outside

pub loop-turn-preserved : goal.loop-turn-preserved
loop-turn-preserved c =
    let p = c.args.program.now in
    let first = c.args.core.now in
    let s = c.loop-turn.core in
    let next = c.put-in-loop-turn.new.machine in
    let fit = fit_of_reached p first c.keeps_sound.ensures.sound c.requires.reached in
    let ended : c.has_ended.result ≡ has_ended ((core_of s).client c.args.client) (blocks_begun first c.args.client) =
    c.has_ended.ensures.value ∙ ap (λ n. has_ended ((core_of s).client c.args.client) n) c.begun-index.ensures.value in
    let inside : is_between ((core_of s).client c.args.client).stage ≡ false =
    stage_is first fit c.requires.quiet c.args.client c.requires.left c.loop-turn._turn s c.loop-turn.invariant.stands c.has_ended.result ended ∙ c.if-has_ended.false in
    let on = c.in_ok-put-2.ensures.on in
    let turn = c.as_slice-in-loop-turn.result.now in
    let own = same_program p first s c.args.lines.now c.loop-turn.lines c.requires.own c.loop-turn.invariant.told in
    record {
      stands = stands_on first fit c.requires.quiet c.args.client c.requires.left c.loop-turn._turn s next c.loop-turn.invariant.stands inside
          (turn_goes p s next c.args.client turn c.loop-turn.lines c.put-in-loop-turn.new.self own (c.as_slice-in-loop-turn.ensures.value ∙ c.in_ok-turn.ensures.turn) on);
      told = gone_on core_view p turn c.args.lines.now first c.loop-turn.lines s c.put-in-loop-turn.new.self next c.loop-turn.invariant.told on;
    }

pub returns-clause-on : goal.returns-clause-on
returns-clause-on c =
    let first = c.args.core.now in
    let fit = fit_of_reached c.args.program.now first c.keeps_sound.ensures.sound c.requires.reached in
    let few = turns_fit first fit c.requires.quiet c.args.client c.requires.left c.loop-turn._turn c.loop-turn.core c.loop-turn.invariant.stands in
    absurd (omega (arith, few, c.loop-turn-test.false))
