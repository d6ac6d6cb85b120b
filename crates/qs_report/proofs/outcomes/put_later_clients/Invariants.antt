-- The clients before this one are there, each after a comma.
use Rattle.std.proofs.Common.{◌≡◌, ◌++◌, codes, flat_map, take}
use Rattle.qs_report.specs.OutcomesText.{next_client_text}
use Rattle.qs_report.proofs.outcomes.put_later_clients.Given as goal

abbrev pub invariant-loop-ticket : goal.invariant-loop-ticket
invariant-loop-ticket l = l.out.items ≡ l.initial.out.items ++ flat_map (λ ticket. codes "," ++ next_client_text ticket) (take l.ticket-index l.order)
