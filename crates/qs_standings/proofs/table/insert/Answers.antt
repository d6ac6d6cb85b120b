use Rattle.qs_standings.proofs.Inserting.{inserted}
use Rattle.qs_standings.proofs.table.insert.Goals as goal

pub returns : goal.returns
returns c = record { inserted = inserted c.args.row c.args.seen.now.keys c.insert_full.new.self.keys c.in-Ok.new c.in-Ok.ensures.added c.in-Ok.ensures.keys }
