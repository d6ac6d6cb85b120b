use Rattle.qs_dot.proofs.Charting.{row_placed}
use Rattle.qs_standings.proofs.Inserting.{inserted}
use Rattle.qs_dot.proofs.chart.row_place.Goals as goal

pub returns : goal.returns
returns c =
    let stored = c.in-Ok.ensures.stored in
    record {
      placed = row_placed c.args.row c.args.rows.now.keys c.insert_full.new.self.keys c.in-Ok.place c.in-Ok.new stored.0
          (inserted c.args.row c.args.rows.now.keys c.insert_full.new.self.keys c.in-Ok.new c.in-Ok.ensures.added c.in-Ok.ensures.keys) stored.1 stored.2;
    }
