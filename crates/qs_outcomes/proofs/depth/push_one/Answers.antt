use Rattle.qs_outcomes.proofs.Common.{configuration_in, drafted, follows_left, only_reduced, rows_in}
use Rattle.qs_outcomes.specs.Searches.{classes_of}
use Rattle.qs_outcomes.proofs.Steps.{none_led, pushed_led}
use Rattle.qs_outcomes.proofs.depth.push_one.Goals as goal

pub lead-requires-clause-left : goal.lead-requires-clause-left
lead-requires-clause-left c =
    follows_left c.args.search.now.program.now (classes_of c.args.search.now) c.requires.prepared.classes only_reduced (configuration_in c.args.standing.now) c.args.client c.requires.goes

pub returns-in_ok-add-clause-pushed : goal.returns-in_ok-add-clause-pushed
returns-in_ok-add-clause-pushed c =
    pushed_led (rows_in c.args.seen.now.keys) c.args.client (drafted c.lead.new.scratch.row) c.requires.to c.requires.goes {met = c.in_ok-next.field-0} c.in_ok-next.ensures.led c.in-Some.is
    c.args.stack.now.items c.add.new.list.items c.in_ok-add.ensures.added

pub returns-in_default-clause-pushed : goal.returns-in_default-clause-pushed
returns-in_default-clause-pushed c =
    none_led (rows_in c.args.seen.now.keys) c.args.client (drafted c.lead.new.scratch.row) c.requires.to c.requires.goes c.in_ok-next.field-0 c.in_ok-next.ensures.led c.in_default.not-Some c.args.stack.now.items
