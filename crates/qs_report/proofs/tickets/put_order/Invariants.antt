-- The tickets before this place are there.
use Rattle.std.proofs.Common.{◌≡◌, ◌++◌, false}
use Rattle.qs_text.specs.audit.Texts.{texts_up_to}
use Rattle.qs_report.specs.audit.Report.{shown_ticket}
use Rattle.qs_report.proofs.tickets.put_order.Given as goal

abbrev pub invariant-loop-place : goal.invariant-loop-place
invariant-loop-place l = l.out.items ≡ l.initial.out.items ++ texts_up_to l.place (shown_ticket false l.counts l.program l.played)
