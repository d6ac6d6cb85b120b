-- The synchronisations before this number are there.
use Rattle.std.proofs.Common.{[], get_or, slice_index_or}
use Rattle.qs_sync_counts.specs.audit.SyncRows.{sync_count}
use Rattle.qs_text.specs.audit.Texts.{texts_up_to}
use Rattle.qs_text.specs.Texts.{Puts}
use Rattle.qs_json.specs.audit.Pieces.{element}
use Rattle.qs_json.specs.audit.RunJson.{sync_json}
use Rattle.qs_json.proofs.runs.put_joined.Given as goal

abbrev pub invariant-loop-number : goal.invariant-loop-number
invariant-loop-number l =
    Puts (texts_up_to l.number (element (λ i. sync_json l.program (get_or (slice_index_or l.played.sync_counts l.place []) i (sync_count 0 0))))) l.initial.out.items l.out.items
