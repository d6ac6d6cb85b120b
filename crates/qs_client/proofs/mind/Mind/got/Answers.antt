use Rattle.std.proofs.Common.{refl, sym, ap, ◌∙◌, subst, length}
use Rattle.qs_client.specs.audit.rules.Client.{take_object}
use Rattle.qs_client.specs.declared.rules.act.Act.TheVariants as acts
use Rattle.qs_client.specs.SoundMind.{IsSoundMind}
use Rattle.qs_client.specs.audit.ClientModel.{mind_after_object}
use Rattle.qs_client.specs.ClientModel.{Asks}
use Rattle.qs_client.specs.MindState.{MindState, block_of, client_in, mind_of, settings_in}
use Rattle.qs_client.specs.contracts.mind.Mind.{the_view}
use Rattle.qs_client.proofs.MindRefinement.{asks_nothing, awaits_begun, block_inside, come_sound, object_is, nothing_left, steady, wants_of}
use Rattle.qs_client.proofs.mind.Mind.got.Goals as goal

pub take_object-requires : goal.take_object-requires
take_object-requires c =
    let m : MindState = the_view c.self.inside in
    let w : IsSoundMind m = c.self.invariant.1 in
    let h = c.requires.asked.0 in
    let asked : Asks (mind_of m) (acts.Await h) = subst (λ (x : MindState). Asks (mind_of x) (acts.Await h)) (sym c.self.view_is) c.requires.asked.1 in
    record {
      block = block_inside m w (awaits_begun m w h asked);
      asked = (settings_in m, length m.code.blocks, length m.entries, w.left, h, wants_of m w (acts.Await h) asked);
    }

pub invariant_of-self : goal.invariant_of-self
invariant_of-self c =
    let m : MindState = the_view c.self.inside in
    let w : IsSoundMind m = c.self.invariant.1 in
    let h = c.requires.asked.0 in
    let asked : Asks (mind_of m) (acts.Await h) = subst (λ (x : MindState). Asks (mind_of x) (acts.Await h)) (sym c.self.view_is) c.requires.asked.1 in
    let come = c.take_object.ensures.come (settings_in m) (length m.code.blocks) (length m.entries) w.left h refl (wants_of m w (acts.Await h) asked) in (
      c.self.invariant.0,
      subst IsSoundMind (nothing_left m c.take_object.new.self (asks_nothing m (acts.Await h) asked))
          (come_sound m (take_object (settings_in m) m.ticket (block_of m).reserved (client_in m) c.args.held (client_in m).stage) w.left c.take_object.new.self
          (steady m (awaits_begun m w h asked) w) come w.few),
    )

pub returns : goal.returns
returns c =
    let m : MindState = the_view c.self.inside in
    let w : IsSoundMind m = c.self.invariant.1 in
    let h = c.requires.asked.0 in
    let asked : Asks (mind_of m) (acts.Await h) = subst (λ (x : MindState). Asks (mind_of x) (acts.Await h)) (sym c.self.view_is) c.requires.asked.1 in
    let come = c.take_object.ensures.come (settings_in m) (length m.code.blocks) (length m.entries) w.left h refl (wants_of m w (acts.Await h) asked) in
    record {
      object = object_is m w.left c.args.held c.take_object.new.self (asks_nothing m (acts.Await h) asked) come
          ∙ ap (λ (x : MindState). mind_after_object (mind_of x) c.args.held) c.self.view_is;
    }
