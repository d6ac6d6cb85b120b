use Rattle.qs_serve.proofs.Dues.{due_after_list, due_by_outcomes}
use Rattle.qs_serve.proofs.searches.due_of_levels.Goals as goal

pub returns-in-Ok-outcomes_by_levels-clause-due : goal.returns-in-Ok-outcomes_by_levels-clause-due
returns-in-Ok-outcomes_by_levels-clause-due g c =
    let p = c.args.program.now in
    let search = c.args.search in
    let all = c.in-Ok-outcomes_by_levels.all in
    let clients = c.as_slice-clients.result.now in
    due_by_outcomes _ p search.limit search.threads search.front.now clients _
    (cc (c.in-Ok.ensures.clients, c.as_slice-clients.ensures.value))
    (due_after_list c.args.ends c.args.format p search.limit clients all _ c.in-Ok-outcomes_by_levels.ensures.outcomes
    c.in-Ok-outcomes_by_levels.ensures.within c.due_of_all.ensures.due)
