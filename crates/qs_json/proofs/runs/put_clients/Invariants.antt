-- The clients before this number are there.
use Rattle.qs_text.specs.audit.Texts.{texts_up_to}
use Rattle.qs_text.specs.Texts.{Puts}
use Rattle.qs_json.specs.audit.Pieces.{element}
use Rattle.qs_json.specs.audit.Replay.{variables_in}
use Rattle.qs_json.specs.audit.Variables.{client_with}
use Rattle.qs_json.proofs.runs.put_clients.Given as goal

abbrev pub invariant-loop-client : goal.invariant-loop-client
invariant-loop-client l =
    Puts (texts_up_to l.client (element (client_with l.program (variables_in l.program l.played)))) l.initial.out.items l.out.items
