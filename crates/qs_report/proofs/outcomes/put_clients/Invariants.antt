-- The clients before this number are there, and their numbers are words.
use Rattle.std.proofs.Common.{◌≡◌, ◌++◌}
use Rattle.qs_report.specs.OutcomesText.{client_line}
use Rattle.qs_text.specs.TellApart.{AreClientsOfWords}
use Rattle.qs_text.specs.audit.Texts.{texts_up_to}
use Rattle.qs_report.proofs.outcomes.put_clients.Given as goal

abbrev pub invariant-loop-client : goal.invariant-loop-client
invariant-loop-client l =
    (l.out.items ≡ l.initial.out.items ++ texts_up_to l.client (client_line l.program l.standing)) × AreClientsOfWords l.program l.client l.standing
