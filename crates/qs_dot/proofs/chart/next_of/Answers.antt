use Rattle.qs_dot.proofs.Common.{rules}
use Rattle.qs_standings.proofs.Stands.{goes_left, goes_next}
use Rattle.qs_dot.proofs.chart.next_of.Goals as goal

pub next-requires-clause-left : goal.next-requires-clause-left
next-requires-clause-left c = goes_left c.args.search.now.program.now c.args.standing.now c.args.client c.requires.goes

pub returns : goal.returns
returns c = search (rules, goes_left, goes_next)
