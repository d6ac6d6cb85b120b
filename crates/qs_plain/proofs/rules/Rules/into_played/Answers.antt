use Rattle.std.proofs.Common.{◌<◌, arith, get_or, subst, sym}
use Rattle.qs_played.proofs.Names.{IfOk, length-map, IsLegal, IsSound, Played}
use Rattle.qs_plain.proofs.Names.{if_shown, IsOrdered, ordered_begin, ordered_plays, tickets_begun, client_of_state, AreIsolated, AreRulesCounted, RulesState, plain_of}
use Rattle.qs_plain_laws.proofs.Names.{begin, begun_blocks, played_of}
use Rattle.qs_plain.proofs.Reaching.{reached_counted, reached_isolated}
use Rattle.qs_plain.proofs.ReadingOff.{at_client}
use Rattle.qs_plain.proofs.rules.Rules.into_played.Goals as goal

pub into_played-requires : goal.into_played-requires
into_played-requires c = λ i d less.
    let s = c.self.inside.machine in
    let p = s.program in
    let t = get_or s.order i d in
    let all = subst (IsOrdered p) (sym c.self.invariant.1) (ordered_plays p (begin p) c.self.invariant.0 (ordered_begin p)) in
    let found = tickets_begun p (plain_of s) all i d less in (
      omega (arith, found.0, length-map s.clients client_of_state),
      subst (λ it. t.index < begun_blocks it) (sym (at_client s.clients t.client)) found.1,
    )

pub returns-clause-legal : goal.returns-clause-legal
returns-clause-legal c =
    let s = c.self.inside.machine in
    let p = s.program in
    let all = subst (IsOrdered p) (sym c.self.invariant.1) (ordered_plays p (begin p) c.self.invariant.0 (ordered_begin p)) in
    subst (λ (r : RulesState). IfOk c.into_played.result (λ (played : Played). IsLegal r.program played.order)) c.self.view_is
    (if_shown (λ (played : Played). IsLegal p played.order) c.into_played.result (played_of p (plain_of s)) c.into_played.ensures.shown (λ played same. subst (λ (x : Played). IsLegal p x.order) (sym same) all.legal))

pub returns-clause-isolated : goal.returns-clause-isolated
returns-clause-isolated c = subst AreIsolated c.self.view_is (reached_isolated c.self.inside.machine (subst IsSound c.program.ensures.value c.keeps_sound.ensures.sound) c.self.invariant)

pub returns-clause-counted : goal.returns-clause-counted
returns-clause-counted c = subst AreRulesCounted c.self.view_is (reached_counted c.self.inside.machine (subst IsSound c.program.ensures.value c.keeps_sound.ensures.sound) c.self.invariant)
