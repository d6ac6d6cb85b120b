use Rattle.std.proofs.Common.{◌≡◌, [], ap, cond, subst, sym, ◌∙◌}
use Rattle.qs_steps.proofs.Names.{Plain, Played, ProgramShape, RulesState, commands_in_queue, plain_of, played_of}
use Rattle.qs_played.specs.Isolation.{IsIsolated}
use Rattle.qs_plain_laws.specs.PlainSchedule.{scheduled}
use Rattle.qs_plain_laws.specs.PlainSyncSums.{AreQueriesCounted}
use Rattle.qs_steps.specs.PlainQueues.{plain_queues, queues_in}
use Rattle.qs_steps.proofs.RulesTelling.{rules_scheduled, rules_steps}
use Rattle.qs_steps.proofs.rules_telling.tell.Goals as goal
use Rattle.qs_steps.proofs.rules_telling.tell.Goals.{In_ok-played}

own : (c : In_ok-played) → c.queues_of.new.machine.program ≡ c.args.program.now
own c = ap (λ (r : RulesState). r.program) c.in_ok-queues.ensures.same ∙ c.in_ok-steps.ensures.lead.kept ∙ c.in_ok-rules.ensures.fresh.0

state : (c : In_ok-played) → plain_of c.queues_of.new.machine ≡ scheduled c.args.program.now c.args.picks.now c.args.rounds
state c =
    let fresh = c.in_ok-rules.ensures.fresh in
    ap plain_of c.in_ok-queues.ensures.same ∙ rules_scheduled c.args.program.now c.args.picks.now c.args.rounds _ fresh.0 fresh.1 _ c.in_ok-steps.ensures.lead

shown : (c : In_ok-played) → c.in_ok-played.played ≡ played_of c.args.program.now (scheduled c.args.program.now c.args.picks.now c.args.rounds)
shown c = c.in_ok-played.ensures.shown ∙ (λ k. played_of (own c k) (state c k))

pub returns-clause-steps : goal.returns-clause-steps
returns-clause-steps c =
    let fresh = c.in_ok-rules.ensures.fresh in
    c.in_ok-steps.ensures.text ∙ ap (λ l. cond c.args.wanted.steps l []) (rules_steps c.args.program.now c.args.picks.now c.args.rounds _ fresh.0 fresh.1 c.args.wanted.form)

pub returns-clause-queues : goal.returns-clause-queues
unfolding plain_queues
returns-clause-queues c =
    let p = c.args.program.now in
    let fresh = c.in_ok-rules.ensures.fresh in
    let lead = c.in_ok-steps.ensures.lead in
    let there = rules_scheduled p c.args.picks.now c.args.rounds _ fresh.0 fresh.1 _ lead in
    c.in_ok-queues.ensures.text ∙ (λ k. cond c.args.wanted.queues (queues_in c.args.wanted.form ((lead.kept ∙ fresh.0) k) (there k)) [])

pub returns-clause-played : goal.returns-clause-played
returns-clause-played c = shown (goal.at.returns-clause-played c).In_ok-played

pub returns-clause-isolated : goal.returns-clause-isolated
returns-clause-isolated c =
    let a = (goal.at.returns-clause-isolated c).In_ok-played in
    let s = scheduled c.args.program.now c.args.picks.now c.args.rounds in
    subst (λ (q : Played). IsIsolated c.args.program.now q (commands_in_queue s)) (sym (shown a))
    (subst (λ (x : ProgramShape × Plain). IsIsolated x.0 (played_of x.0 x.1) (commands_in_queue x.1)) (λ k. (own a k, state a k)) c.in_ok-played.ensures.isolated)

pub returns-clause-counted : goal.returns-clause-counted
returns-clause-counted c =
    let a = (goal.at.returns-clause-counted c).In_ok-played in
    let s = scheduled c.args.program.now c.args.picks.now c.args.rounds in
    subst (λ (q : Played). AreQueriesCounted c.args.program.now s q) (sym (shown a))
    (subst (λ (x : ProgramShape × Plain). AreQueriesCounted x.0 x.1 (played_of x.0 x.1)) (λ k. (own a k, state a k)) c.in_ok-played.ensures.counted)
