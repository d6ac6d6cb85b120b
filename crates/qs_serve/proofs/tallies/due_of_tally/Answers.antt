use Rattle.qs_serve.proofs.AskedDues.{asked_times}
use Rattle.qs_serve.proofs.Dues.{due_by_tally, tally_is_no_input, tally_places}
use Rattle.qs_serve.specs.Due.{most_numbered}
use Rattle.qs_serve.proofs.tallies.due_of_tally.Goals as goal

pub due_of_counted-requires : goal.due_of_counted-requires
due_of_counted-requires g c = record {
  places = tally_places c.args.program.now c.args.repeats.mode c.args.repeats.size c.args.repeats.times most_numbered c.in-Ok.tally c.in-Ok.ensures.tally;
}

pub returns-in-Ok-clause-due : goal.returns-in-Ok-clause-due
returns-in-Ok-clause-due g c =
    due_by_tally c.args.format c.args.repeats.mode c.args.repeats.size c.args.repeats.times c.args.program.now c.in-Ok.tally _ c.in-Ok.ensures.tally c.due_of_counted.ensures.due

pub returns-in-Ok-clause-not_input : goal.returns-in-Ok-clause-not_input
returns-in-Ok-clause-not_input g c = tally_is_no_input c.args.format c.args.program.now c.args.repeats.times c.in-Ok.tally _ c.due_of_counted.ensures.due

pub returns-in-Ok-clause-started : goal.returns-in-Ok-clause-started
returns-in-Ok-clause-started g c =
    asked_times _ _ _ c.args.format c.args.program.now c.args.repeats.times c.in-Ok.tally _ c.due_of_counted.ensures.due c.in-Ok.ensures.started
