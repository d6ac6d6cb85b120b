use Rattle.std.proofs.Common.{◌≡◌, None, ap, sym, subst, ◌∙◌, arith, length}
use Rattle.qs_played.specs.declared.schedule.actor.Actor.TheVariants as actor
use Rattle.qs_plain_laws.specs.audit.Plain.{step}
use Rattle.qs_plain.proofs.Names.{ClientState, IsClient, RulesState, plain_of}
use Rattle.qs_plain.proofs.RulesServe.{none_out}
use Rattle.qs_plain.proofs.RulesFieldLemmas.{within_of, here_of}
use Rattle.qs_plain.proofs.machine.Machine.step_client.Goals as goal

pub returns-then-not-has_more-clause-none : goal.returns-then-not-has_more-clause-none
returns-then-not-has_more-clause-none c = λ _.
    let number = c.args.number in
    let less = within_of _ _ number c.self.view_is c.requires in
    let here = here_of _ number _ _ c.from.ensures less c.index-client.ensures in
    let isc = subst IsClient here c.has_more.ensures.kept in
    let out = sym (ap (λ (d : ClientState). d.stage) here) ∙ sym c.stage.ensures.value ∙ c.in-Out.is in
    let nothing : length c.index-client.result.now.prepared ≡ 0 = grind (arith, c.if-not-has_more.ensures.value) in
    let none = subst (λ (d : ClientState). length d.prepared ≡ 0) here nothing in
    subst (λ (r : RulesState). step r.program (plain_of r) (actor.Client number) ≡ None) c.self.view_is (none_out _ number c.self.invariant.0 less isc out none)
