use Rattle.std.proofs.Common.{◌≡◌, List, [], ◌∷◌, ◌++◌, refl, sym, ap, ◌∙◌, subst, length, arith}
use Rattle.qs_program.specs.audit.Values.{Locals}
use Rattle.qs_graph.specs.audit.Steps.{limit}
use Rattle.qs_client.specs.audit.rules.Client.{between}
use Rattle.qs_client.specs.declared.rules.act.Act.TheVariants as acts
use Rattle.qs_client.specs.SoundMind.{IsSoundMind}
use Rattle.qs_client.specs.audit.ClientModel.{mind_after_begin}
use Rattle.qs_client.specs.ClientModel.{Asks}
use Rattle.qs_client.specs.MindState.{MindState, mind_of, settings_in}
use Rattle.qs_client.specs.contracts.mind.Mind.{the_view}
use Rattle.qs_client.proofs.BlockBeginnings.{begin_is, state_at_begin, begin_comes, begin_sound, begin_running, next_ticket, reserves}
use Rattle.qs_client.proofs.mind.Mind.booked.Goals as goal

pub push_reserved-requires : goal.push_reserved-requires
push_reserved-requires c =
    let m : MindState = the_view c.self.inside in
    let asked : Asks (mind_of m) acts.Reserve = subst (λ (x : MindState). Asks (mind_of x) acts.Reserve) (sym c.self.view_is) c.requires.asked in
    omega (arith, c.self.invariant.0, (reserves m c.self.invariant.1 asked).1)

pub begin-requires : goal.begin-requires
begin-requires c =
    let m : MindState = the_view c.self.inside in
    let w : IsSoundMind m = c.self.invariant.1 in
    let t = c.args.ticket in
    let asked : Asks (mind_of m) acts.Reserve = subst (λ (x : MindState). Asks (mind_of x) acts.Reserve) (sym c.self.view_is) c.requires.asked in
    let is : t.index ≡ length m.entries = next_ticket m t (c.requires.next ∙ ap (λ (x : MindState). (mind_of x).client.begun) (sym c.self.view_is)) in
    record {
      block = omega (arith, is, (reserves m w asked).1);
      running = (m.size, limit, begin_running m w t asked is);
    }

pub invariant_of-self : goal.invariant_of-self
invariant_of-self c =
    let m : MindState = the_view c.self.inside in
    let w : IsSoundMind m = c.self.invariant.1 in
    let t = c.args.ticket in
    let asked : Asks (mind_of m) acts.Reserve = subst (λ (x : MindState). Asks (mind_of x) acts.Reserve) (sym c.self.view_is) c.requires.asked in
    let is : t.index ≡ length m.entries = next_ticket m t (c.requires.next ∙ ap (λ (x : MindState). (mind_of x).client.begun) (sym c.self.view_is)) in
    let entries : c.push_reserved.new.self.items ≡ (state_at_begin m t).entries =
    c.push_reserved.ensures.items ∙ ap (λ (l : Locals). m.entries ++ l ∷ []) c.locals-locals.ensures.value in
    let settled = c.begin.ensures.settled (settings_in m) (length (state_at_begin m t).entries) (between m.run.position.locals) limit refl (begin_running m w t asked is) in (
      omega (arith, c.self.invariant.0, c.push_reserved.ensures.capacity),
      subst (λ (es : List Locals). IsSoundMind (record m {
        ticket = t;
        run = c.begin.new.self;
        entries = es;
      })) (sym entries) (begin_sound m w t asked is c.begin.new.self (begin_comes m w t asked is c.begin.new.self settled)),
    )

pub returns : goal.returns
returns c =
    let m : MindState = the_view c.self.inside in
    let w : IsSoundMind m = c.self.invariant.1 in
    let t = c.args.ticket in
    let asked : Asks (mind_of m) acts.Reserve = subst (λ (x : MindState). Asks (mind_of x) acts.Reserve) (sym c.self.view_is) c.requires.asked in
    let is : t.index ≡ length m.entries = next_ticket m t (c.requires.next ∙ ap (λ (x : MindState). (mind_of x).client.begun) (sym c.self.view_is)) in
    let entries : c.push_reserved.new.self.items ≡ (state_at_begin m t).entries =
    c.push_reserved.ensures.items ∙ ap (λ (l : Locals). m.entries ++ l ∷ []) c.locals-locals.ensures.value in
    let settled = c.begin.ensures.settled (settings_in m) (length (state_at_begin m t).entries) (between m.run.position.locals) limit refl (begin_running m w t asked is) in
    record {
      begun = ap (λ (es : List Locals). mind_of (record m {
        ticket = t;
        run = c.begin.new.self;
        entries = es;
      })) entries
          ∙ begin_is m w t asked is c.begin.new.self (begin_comes m w t asked is c.begin.new.self settled)
          ∙ ap (λ (x : MindState). mind_after_begin (mind_of x) t) c.self.view_is;
    }
