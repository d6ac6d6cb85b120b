use Rattle.qs_json.proofs.runs.put_events_of.Goals as goal

pub returns : goal.returns
returns c = record { ok = rw (c.trace.ensures.value, c.as_slice.ensures.value, c.in_ok-own_fates.ensures.fates) at c.put_trace.ensures.ok }
