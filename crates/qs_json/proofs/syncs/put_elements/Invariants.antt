-- The objects before this one are there.
use Rattle.qs_text.specs.audit.Texts.{texts_up_to}
use Rattle.qs_text.specs.Texts.{Puts}
use Rattle.qs_json.specs.audit.Pieces.{element}
use Rattle.qs_json.specs.SyncsJson.{row_json}
use Rattle.qs_json.proofs.syncs.put_elements.Given as goal

abbrev pub invariant-loop-index : goal.invariant-loop-index
invariant-loop-index l = Puts (texts_up_to l.index (element (row_json l.program l.table l.place))) l.initial.out.items l.out.items
