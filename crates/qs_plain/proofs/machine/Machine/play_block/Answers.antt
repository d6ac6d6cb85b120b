use Rattle.std.proofs.Common.{◌≡◌, ◌∙◌, ◌∷◌, false, map, refl, subst, sym, rules}
use Rattle.qs_played.proofs.Names.{Ticket, text_of, IsSound}
use Rattle.qs_played.specs.declared.schedule.actor.Actor.TheVariants as actors
use Rattle.qs_plain_laws.proofs.Names.{client_at, is_out, plays}
use Rattle.qs_plain.proofs.Names.{blocks_begun, RulesState, plain_of}
use Rattle.qs_plain.proofs.Blocks.{fewer_left, stands_first, stands_on}
use Rattle.qs_plain.proofs.Playing.{stepped}
use Rattle.qs_plain.proofs.machine.Machine.play_block.Goals as goal
use Rattle.qs_plain.proofs.machine.Machine.play_block.Goals.{After-turn}

-- the ticket of the block
abbrev ticket_in : After-turn → Ticket
ticket_in c = record { client = c.args.client; index = blocks_begun c.args.self.now c.args.client }

sound_in : (c : After-turn) → IsSound c.args.self.now.program
sound_in c = subst (λ (r : RulesState). IsSound r.program) c.self.view_is c.keeps_sound.ensures.sound

out_false : (c : After-turn) → is_out (client_at (plain_of c.turns.self) c.args.client).stage ≡ false
out_false c = sym c.is_out.ensures.value ∙ c.turns-test.true

turned : (c : After-turn) → plain_of c.turn.new.self ≡ plays c.args.self.now.program (actors.Client c.args.client ∷ map actors.Handler (text_of c.args.self.now.program (ticket_in c)).reserved) (plain_of c.turns.self)
turned c = search (rules, map)

pub turns-init : goal.turns-init
turns-init c =
    let self = c.args.self.now in
    let it = c.step-stepped in
    let next = stepped self (actors.Client c.args.client) it.result it.new.self it.ensures.steps it.ensures.none it.ensures.unchanged in
    record {
      program = next.1;
      stands = stands_first self.program (subst (λ (r : RulesState). IsSound r.program) c.self.view_is c.keeps_sound.ensures.sound) self.order (blocks_begun self)
          (record { client = c.args.client; index = blocks_begun self c.args.client }) refl c.requires.left (plain_of self) (plain_of it.new.self) c.requires.quiet next.0;
    }

pub turns-smaller : goal.turns-smaller
turns-smaller c =
    let self = c.args.self.now in
    let a = (goal.at.turns-smaller c).After-turn in
    fewer_left self.program (sound_in a) self.order (blocks_begun self) (ticket_in a) refl c.requires.left (plain_of self) (plain_of c.turns.self) (plain_of c.turn.new.self)
    c.turns.invariant.stands (out_false a) (turned a)

pub turns-preserved : goal.turns-preserved
turns-preserved c =
    let self = c.args.self.now in
    let a = (goal.at.turns-preserved c).After-turn in
    record {
      program = c.turn.ensures.program ∙ c.turns.invariant.program;
      stands = stands_on self.program (sound_in a) self.order (blocks_begun self) (ticket_in a) refl c.requires.left (plain_of self) (plain_of c.turns.self) (plain_of c.turn.new.self)
          c.turns.invariant.stands (out_false a) (turned a);
    }
