use Rattle.std.proofs.Common.{sym, subst, take}
use Rattle.qs_steps.proofs.Names.{LeadTo, actors_of, rounds_of, take_all, take_more}
use Rattle.qs_steps.proofs.TellingRuns.{more_lead, none_lead, one_lead_more}
use Rattle.qs_steps.proofs.telling.play.Goals as goal

pub loop-pick-init : goal.loop-pick-init
loop-pick-init g c = none_lead g.M.Machine.view c.args.machine.now

pub loop-pick-preserved : goal.loop-pick-preserved
loop-pick-preserved g c =
    let v = g.M.Machine.view in
    let picks = c.args.picks.now in
    let i = c.loop-pick.pick-index in
    subst (λ xs. LeadTo v xs c.args.machine.now c.ask-stepped.new.self) (sym (take_more picks i _ c.loop-pick-test.true))
    (one_lead_more v (take i picks) _ _ _ _ _ c.loop-pick.invariant c.ask-stepped.ensures.asked)

pub returns : goal.returns
returns g c =
    let v = g.M.Machine.view in
    let picks = c.args.picks.now in
    let s = c.args.machine.now in
    let picked = subst (λ xs. LeadTo v xs s c.loop-pick.machine) (take_all c.loop-pick.pick-index picks c.loop-pick-test.false) c.loop-pick.invariant in
    let rounds = subst (λ k. LeadTo v (rounds_of c.args.rounds (actors_of (v.program k))) c.loop-pick.machine c.ask_rounds.new.self) picked.kept c.ask_rounds.ensures.lead in
    record { lead = more_lead v picks (rounds_of c.args.rounds (actors_of (v.program (v.kept s)))) _ _ _ picked rounds }
