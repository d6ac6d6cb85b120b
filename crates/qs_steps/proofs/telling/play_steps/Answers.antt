use Rattle.std.proofs.Common.{[], ap, cond, subst, sym, ◌∙◌}
use Rattle.qs_steps.proofs.Names.{LeadTo, schedule, steps_from}
use Rattle.qs_steps.proofs.telling.play_steps.Goals as goal

pub returns-else-tells : goal.returns-else-tells
returns-else-tells g c =
    let v = g.M.Machine.view in
    let picks = c.args.picks.now in
    let rounds = c.args.rounds in
    record {
      text = c.new.ensures.items ∙ sym (ap (λ b. cond b (steps_from v c.args.wanted.form c.args.program.now picks rounds c.args.machine.now) []) c.if-tells.false);
      lead = subst (λ p. LeadTo v (schedule p picks rounds) c.args.machine.now c.play.new.machine) c.requires.own c.play.ensures.lead;
    }
