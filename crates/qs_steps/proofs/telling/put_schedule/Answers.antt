use Rattle.qs_steps.proofs.Queues.{on_ok}
use Rattle.qs_steps.proofs.TellingRuns.{whole_told}
use Rattle.qs_steps.proofs.telling.put_schedule.Goals as goal

pub returns : goal.returns
returns g c = record {
  told = on_ok c.put_rounds.result c.put_rounds.ensures.told
      (λ later. whole_told g.M.Machine.view c.args.form c.args.program.now c.args.picks.now c.args.rounds _ _ _ _ _ _ c.in_ok-put_actors.ensures.told later);
}
