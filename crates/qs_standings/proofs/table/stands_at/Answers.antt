use Rattle.std.proofs.Common.{sym, ◌∙◌}
use Rattle.qs_standings.specs.Rows.{drafted}
use Rattle.qs_standings.proofs.Inserting.{among_at}
use Rattle.qs_standings.proofs.table.stands_at.Goals as goal

pub returns-in-Some : goal.returns-in-Some
returns-in-Some c = record { seen = λ is. among_at (drafted c.args.row.now) c.args.seen.now.keys c.args.place c.in-Some.known.now (sym c.in-Some.ensures.key) (sym c.equivalent.ensures ∙ is) }
