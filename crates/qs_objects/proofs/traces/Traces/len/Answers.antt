use Rattle.std.proofs.Common.{List, length, sym, ap, ◌∙◌}
use Rattle.qs_objects.specs.Traces.{TraceState}
use Rattle.qs_objects.proofs.TraceRows.{length_rooms}
use Rattle.qs_objects.proofs.traces.Traces.len.Goals as goal

pub returns : goal.returns
returns c = record {
  count = c.len.ensures ∙ c.self.inside.rooms.ok.0 ∙ sym (length_rooms c.self.inside.rows.rows c.self.inside.rooms.items c.self.invariant.many)
      ∙ ap (λ (ts : List TraceState). length ts) c.self.view_is;
}
