-- The calls of `collect_outcome` can be made, and what it shows is an outcome: `CollectedOutcome` says so of what the
-- calls gave back.
use Rattle.std.proofs.Common.{sym, subst, arith, rules}
use Rattle.qs_run.proofs.Names.{AreAllPaired, IsOutcome, with_items_is}
use Rattle.std.specs.Vec.{with_items}
use Rattle.qs_run.proofs.CollectedOutcome.{IsShowable, all_showable}
use Rattle.qs_run.proofs.CollectedWorkers.{all_paired, few_handlers}
use Rattle.qs_run.proofs.collect.outcome.collect_outcome.Given.{Over}
use Rattle.qs_run.proofs.collect.outcome.collect_outcome.Goals as goal

pub collect_clients-rows-requires-clause-paired : goal.collect_clients-rows-requires-clause-paired
collect_clients-rows-requires-clause-paired g c =
    subst (λ hs. AreAllPaired hs c.args.results.clients.items) (sym c.as_mut_slice.ensures.value)
    (all_paired g.D.DeskName.program c.args.mode c.args.size c.args.results.handlers.items c.args.results.clients.items c.requires.ran)

pub collect_handlers-journals-requires-clause-journals_room :
    goal.collect_handlers-journals-requires-clause-journals_room
collect_handlers-journals-requires-clause-journals_room g c =
    let few = few_handlers g.D.DeskName.program c.args.mode c.args.size c.args.results.handlers.items c.args.results.clients.items c.requires.ran c.requires.sound in
    (c.args.room.empty.2, omega (arith, few, c.args.results.handlers.ok.0, c.args.room.room.2))

pub collect_handlers-journals-requires-clause-states_room :
    goal.collect_handlers-journals-requires-clause-states_room
collect_handlers-journals-requires-clause-states_room g c =
    let few = few_handlers g.D.DeskName.program c.args.mode c.args.size c.args.results.handlers.items c.args.results.clients.items c.requires.ran c.requires.sound in
    (c.args.room.empty.3, omega (arith, few, c.args.results.handlers.ok.0, c.args.room.room.3))

what_is_shown : (g : Over) (c : goal.After-into_order g)
    → IsShowable g.D.DeskName.program c.args.mode c.args.size c.into_order.result.items c.collect_clients-rows.result.items c.collect_handlers-journals.result.0.items
    c.collect_handlers-journals.result.1.items
what_is_shown g c =
    all_showable g.D.DeskName.program c.requires.sound c.args.mode c.args.size c.args.results.handlers.items c.args.results.clients.items c.requires.ran
    c.args.results.desk c.collect_clients-rows.new.desk c.collect_handlers-journals.new.desk c.as_mut_slice.result.now
    (with_items c.args.results.handlers c.collect_clients-rows.new.handlers).items c.args.results.clients.len c.into_order.result.items c.collect_clients-rows.result.items
    c.collect_handlers-journals.result.0.items c.collect_handlers-journals.result.1.items
    c.as_mut_slice.ensures.value c.collect_clients-rows.ensures.desk c.collect_handlers-journals.ensures.desk (search (rules, c, with_items_is))
    c.collect_clients-rows.ensures.booked c.collect_clients-rows.ensures.joined c.collect_handlers-journals.ensures.taken_all
    c.into_order.ensures.order c.into_order.ensures.legal c.collect_clients-rows.ensures.rows
    c.collect_handlers-journals.ensures.journals c.collect_handlers-journals.ensures.states

pub shown_outcome-requires-clause-few : goal.shown_outcome-requires-clause-few
shown_outcome-requires-clause-few g c = let few = (what_is_shown g c).few in omega (arith, few, c.into_order.result.ok.0)

pub shown_outcome-requires-clause-rows : goal.shown_outcome-requires-clause-rows
shown_outcome-requires-clause-rows g c = (what_is_shown g c).rows_there

pub shown_outcome-requires-clause-short : goal.shown_outcome-requires-clause-short
shown_outcome-requires-clause-short g c = (what_is_shown g c).short_rows

pub returns : goal.returns
returns g c = record {
  outcome = subst (IsOutcome g.D.DeskName.program c.args.mode c.args.size) (sym c.shown_outcome.ensures.shown) (what_is_shown g c.before).is_outcome;
}
