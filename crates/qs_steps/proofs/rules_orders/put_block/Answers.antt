use Rattle.std.proofs.Common.{◌≡◌, ◌<◌, ◌∙◌, ◌++◌, ◌∷◌, [], ap, false, map, refl, rules, subst, suc, sym, true}
use Rattle.qs_played.proofs.Names.{Ticket, all_named, put_here, text_of, IsSound}
use Rattle.qs_steps.proofs.Names.{blocks_of, put, rules_view}
use Rattle.qs_played.specs.declared.schedule.actor.Actor.TheVariants as actors
use Rattle.qs_plain_laws.proofs.Names.{client_at, is_out, plays}
use Rattle.qs_plain_laws.proofs.orders.BlockAlone.{named_turn}
use Rattle.qs_plain_laws.proofs.orders.BlockReached.{has_client}
use Rattle.qs_plain.proofs.Names.{blocks_begun, plain_of}
use Rattle.qs_plain.proofs.Blocks.{fewer_left, stands_first, stands_on}
use Rattle.qs_steps.proofs.OrdersTold.{gone_none, gone_on, rules_turned}
use Rattle.qs_steps.proofs.rules_orders.put_block.Goals as goal
use Rattle.qs_steps.proofs.rules_orders.put_block.Goals.{After-as_slice, In_ok-put, In_ok-put-2}

-- the ticket of the block
abbrev ticket_in : In_ok-put → Ticket
ticket_in c = record { client = c.args.client; index = blocks_begun c.args.rules.now c.args.client }

sound_in : (c : In_ok-put) → IsSound c.args.rules.now.program
sound_in c = subst IsSound (sym c.requires.own) c.keeps_sound.ensures.sound

-- the turn that is asked again and again
turn_in : (c : After-as_slice) → c.as_slice.result.now ≡ actors.Client c.args.client ∷ map actors.Handler (text_of c.args.program.now (record { client = c.args.client; index = blocks_begun c.args.rules.now c.args.client })).reserved
turn_in c = search (rules, map)

pub turns-init : goal.turns-init
turns-init c =
    let first = c.args.rules.now in
    let on = c.in_ok-put.ensures.on in
    record {
      program = on.told.lead.kept;
      stands = stands_first first.program (sound_in c) first.order (blocks_begun first) (ticket_in c) refl c.requires.left (plain_of first) (plain_of c.put.new.machine) c.requires.quiet on.told.lead.state;
      told = gone_on rules_view c.args.program.now _ c.args.lines.now first c.args.lines.now first c.put.new.self c.put.new.machine (gone_none rules_view c.args.program.now c.args.lines.now first) on;
    }

pub put-requires-in-turns-clause-named : goal.put-requires-in-turns-clause-named
put-requires-in-turns-clause-named c =
    let p = c.args.program.now in
    let first = c.args.rules.now in
    let t : Ticket = record { client = c.args.client; index = blocks_begun first c.args.client } in
    let left = subst (λ q. t.index < blocks_of q t.client) c.requires.own c.requires.left in
    subst (λ xs. all_named p xs ≡ true) (sym (turn_in c))
    (named_turn p c.keeps_sound.ensures.sound (first.order ++ t ∷ []) (put (blocks_begun first) t.client (suc (blocks_begun first t.client))) t (has_client p t left)
    (put_here (blocks_begun first) t.client (suc (blocks_begun first t.client))))

-- one turn more, as the rules of the first program play it
turned : (c : In_ok-put-2) → plain_of c.put-in-turns.new.machine ≡ plays c.args.rules.now.program
    (actors.Client c.args.client ∷ map actors.Handler (text_of c.args.rules.now.program (record { client = c.args.client; index = blocks_begun c.args.rules.now c.args.client })).reserved) (plain_of c.turns.rules)
turned c =
    let own = c.requires.own in
    let t : Ticket = record { client = c.args.client; index = blocks_begun c.args.rules.now c.args.client } in
    let turn = turn_in ((goal.at.turns-preserved c).After-as_slice) ∙ ap (λ q. actors.Client c.args.client ∷ map actors.Handler (text_of q t).reserved) (sym own) in
    rules_turned c.args.program.now c.args.rules.now.program c.turns.rules c.put-in-turns.new.machine _ _ c.turns.lines c.put-in-turns.new.self c.turns.invariant.program turn c.in_ok-put-2.ensures.on

inside : (c : In_ok-put-2) → is_out (client_at (plain_of c.turns.rules) c.args.client).stage ≡ false
inside c = sym c.is_out.ensures.value ∙ c.turns-test.true

pub turns-smaller : goal.turns-smaller
turns-smaller c =
    let first = c.args.rules.now in
    let a = (goal.at.turns-smaller c).In_ok-put in
    fewer_left first.program (sound_in a) first.order (blocks_begun first) (ticket_in a) refl c.requires.left (plain_of first) (plain_of c.turns.rules) (plain_of c.put-in-turns.new.machine)
    c.turns.invariant.stands (inside c) (turned c)

pub turns-preserved : goal.turns-preserved
turns-preserved c =
    let first = c.args.rules.now in
    let a = (goal.at.turns-preserved c).In_ok-put in
    let on = c.in_ok-put-2.ensures.on in
    record {
      program = on.told.lead.kept ∙ c.turns.invariant.program;
      stands = stands_on first.program (sound_in a) first.order (blocks_begun first) (ticket_in a) refl c.requires.left (plain_of first) (plain_of c.turns.rules) (plain_of c.put-in-turns.new.machine)
          c.turns.invariant.stands (inside c) (turned c);
      told = gone_on rules_view c.args.program.now _ c.args.lines.now first c.turns.lines c.turns.rules c.put-in-turns.new.self c.put-in-turns.new.machine c.turns.invariant.told on;
    }
