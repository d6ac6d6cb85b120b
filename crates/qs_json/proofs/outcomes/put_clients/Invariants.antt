-- The clients before this number are there, and their numbers are words.
use Rattle.qs_text.specs.TellApart.{AreClientsOfWords}
use Rattle.qs_text.specs.audit.Texts.{texts_up_to}
use Rattle.qs_text.specs.Texts.{Puts}
use Rattle.qs_json.specs.audit.Pieces.{element}
use Rattle.qs_json.specs.OutcomesJson.{client_json}
use Rattle.qs_json.proofs.outcomes.put_clients.Given as goal

abbrev pub invariant-loop-client : goal.invariant-loop-client
invariant-loop-client l =
    Puts (texts_up_to l.client (element (client_json l.program l.standing))) l.initial.out.items l.out.items
    × AreClientsOfWords l.program l.client l.standing
