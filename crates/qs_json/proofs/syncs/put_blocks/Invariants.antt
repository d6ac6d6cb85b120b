-- The blocks before this place are there.
use Rattle.qs_text.specs.audit.Texts.{texts_up_to}
use Rattle.qs_text.specs.Texts.{Puts}
use Rattle.qs_json.specs.SyncsJson.{block_json}
use Rattle.qs_json.proofs.syncs.put_blocks.Given as goal

abbrev pub invariant-loop-place : goal.invariant-loop-place
invariant-loop-place l = Puts (texts_up_to l.place (block_json l.program l.table)) l.initial.out.items l.out.items
