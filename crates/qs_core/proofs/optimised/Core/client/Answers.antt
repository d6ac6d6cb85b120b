use Rattle.std.proofs.Common.{◌<◌, ap, arith, length, sym, subst, ◌∙◌}
use Rattle.qs_program.specs.Sound.{IsSound}
use Rattle.qs_core.specs.state.CoreState.{CoreState, codes_of, core_of, client_part_at}
use Rattle.qs_core.proofs.state.CoreReaching.{core_keeps}
use Rattle.qs_core.specs.CoreEffects.{AreLanesOf, act_at}
use Rattle.qs_core.proofs.CorePlaces.{lanes_are, turned_is, wanted_is}
use Rattle.qs_core.proofs.optimised.Core.client.Goals as goal

pub client_at-client-requires : goal.client_at-client-requires
client_at-client-requires c =
    record { number = omega (arith, c.from.ensures, c.requires, c.keeps_machine.ensures.state.clients, ap length c.clients.ensures.value, ap (λ (x : CoreState). length x.program.clients) c.self.view_is) }

pub returns : goal.returns
returns c =
    let s = c.self.inside.machine in
    let n = c.args.client in
    let kept = c.keeps_machine.ensures.state in
    let inside : n < length s.clients = omega (arith, c.requires, kept.clients, ap (λ (x : CoreState). length x.program.clients) c.self.view_is) in
    let d = c.client_at-client.result.now in
    let mind = c.client_at-client.ensures.mind ∙ (λ k. (client_part_at (c.clients.ensures.value k) (c.from.ensures k)).mind) in
    let lanes = c.client_at-client.ensures.lanes ∙ (λ k. (client_part_at (c.clients.ensures.value k) (c.from.ensures k)).lanes) in
    let formed = c.has_next_act.ensures.formed in
    let keeps = core_keeps s (subst IsSound c.program.ensures.value c.keeps_sound.ensures.sound) kept c.self.invariant.0 in
    record {
      act = wanted_is s kept n inside d formed mind ∙ ap (λ (x : CoreState). act_at (codes_of x) x.size (core_of x) n) c.self.view_is;
      turned = λ h turned. subst (λ (x : CoreState). h < length x.program.objects) c.self.view_is (turned_is s kept n inside d formed mind keeps h turned);
      many = ap length lanes ∙ (kept.sides n inside).lanes ∙ ap (λ (x : CoreState). length x.program.objects) c.self.view_is;
      lanes = subst (λ (x : CoreState). AreLanesOf (core_of x) n d.lanes) c.self.view_is (subst (AreLanesOf (core_of s) n) (sym lanes) (lanes_are s kept n inside));
    }
