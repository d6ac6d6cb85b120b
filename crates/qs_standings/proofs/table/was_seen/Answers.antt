use Rattle.std.proofs.Common.{sym, ◌∙◌}
use Rattle.qs_standings.specs.Rows.{drafted}
use Rattle.qs_standings.proofs.Inserting.{among}
use Rattle.qs_standings.proofs.table.was_seen.Goals as goal

pub returns-else-stands_at : goal.returns-else-stands_at
returns-else-stands_at c = record { seen = λ is. among (drafted c.args.row.now) c.args.seen.now.keys (sym c.contains.ensures ∙ is) }
