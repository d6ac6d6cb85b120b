-- The leads before this one are there.
use Rattle.qs_dot.proofs.Common.{◌≡◌, ◌++◌, flat_map, take, lead_line}
use Rattle.qs_dot.proofs.chart_text.put_leads.Given as goal

abbrev pub invariant-loop-lead : goal.invariant-loop-lead
invariant-loop-lead l =
    l.out.items ≡ l.initial.out.items ++ flat_map (lead_line l.program l.places) (take l.lead-index l.leads)
