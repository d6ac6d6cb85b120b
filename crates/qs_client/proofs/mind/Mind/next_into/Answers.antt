use Rattle.std.proofs.Common.{◌≡◌, sym, ap, ◌∙◌, subst, length, arith}
use Rattle.qs_client.specs.run.NextActs.{HasActed}
use Rattle.qs_client.specs.declared.rules.outgoing.Outgoing.{Outgoing}
use Rattle.qs_client.specs.SoundMind.{IsSoundMind}
use Rattle.qs_client.specs.audit.ClientModel.{ClientModel, act_due, finish, hands_out}
use Rattle.qs_client.specs.ClientModel.{Asks}
use Rattle.qs_client.specs.MindState.{MindState, block_of, mind_of, settings_in}
use Rattle.qs_client.specs.contracts.mind.Mind.{the_view}
use Rattle.qs_client.proofs.MindRefinement.{acts_asked, acts_is, acts_sound, hands_over, quiet_asks}
use Rattle.qs_client.proofs.mind.Mind.next_into.Goals as goal

pub invariant_of-self : goal.invariant_of-self
invariant_of-self c =
    let m : MindState = the_view c.self.inside in
    let w : IsSoundMind m = c.self.invariant.1 in
    let begun : c.len-begun.result ≡ length m.entries = omega arith in
    let acted = subst (λ n. HasActed (block_of m) (settings_in m) (length m.code.blocks) m.ticket.index n w.left c.act_into.new.act m.run c.act_into.new.self) begun
    (c.act_into.ensures.acted (settings_in m) w.left w.standing) in (
      c.self.invariant.0,
      subst (λ (h : Outgoing). IsSoundMind (hands_over m c.act_into.new.self h)) (sym c.outgoing-self-inside.ensures.value)
          (acts_sound m w c.act_into.new.act c.act_into.new.self acted),
    )

pub returns : goal.returns
returns c =
    let m : MindState = the_view c.self.inside in
    let w : IsSoundMind m = c.self.invariant.1 in
    let begun : c.len-begun.result ≡ length m.entries = omega arith in
    let acted = subst (λ n. HasActed (block_of m) (settings_in m) (length m.code.blocks) m.ticket.index n w.left c.act_into.new.act m.run c.act_into.new.self) begun
    (c.act_into.ensures.acted (settings_in m) w.left w.standing) in
    let finished : mind_of m ≡ finish (mind_of c.args.self.now) = ap mind_of c.self.view_is ∙ c.finish.ensures.done in
    let given : c.act_into.new.act ≡ act_due (finish (mind_of c.args.self.now)) =
    acts_asked m w.left c.act_into.new.act c.act_into.new.self acted ∙ ap act_due finished in
    let new : mind_of (hands_over m c.act_into.new.self c.outgoing-self-inside.result) ≡ hands_out (mind_of m) c.act_into.new.act =
    ap (λ (h : Outgoing). mind_of (hands_over m c.act_into.new.self h)) c.outgoing-self-inside.ensures.value
    ∙ acts_is m w.left c.act_into.new.act c.act_into.new.self acted in
    record {
      asked = λ quiet.
          subst (λ (x : ClientModel). Asks x c.act_into.new.act) (sym new)
          (quiet_asks (mind_of m) c.act_into.new.act quiet (acts_asked m w.left c.act_into.new.act c.act_into.new.self acted));
      act = given;
      rest = new ∙ (λ i. hands_out (finished i) (given i));
    }
