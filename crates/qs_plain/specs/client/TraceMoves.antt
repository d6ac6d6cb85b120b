-- Traces after an event.
use Rattle.std.specs.Prelude.{ℕ, ◌-◌, List, [], ◌∷◌, ◌++◌, length, slice_index_or, slice_set}
use Rattle.qs_objects.specs.declared.held.Event.{Event}
use Rattle.qs_objects.specs.Traces.{TraceState, trace_state}
use Rattle.qs_sync_counts.specs.audit.SyncRows.{with_sync}
use Rattle.qs_sync_counts.specs.declared.sync_counts.SyncCount.{SyncCount}

abbrev pub no_trace : TraceState
no_trace = trace_state [] 0

abbrev pub last_of : List TraceState → TraceState
last_of ts = slice_index_or ts (length ts - 1) no_trace

-- the traces after an event at the end of the last
abbrev pub noted_in : List TraceState → Event → List TraceState
noted_in ts e = slice_set ts (length ts - 1) (trace_state ((last_of ts).events ++ e ∷ []) ((last_of ts).room - 1))

-- the counts after a query on object h in the last block
abbrev pub counted_in : List (List SyncCount) → ℕ → List (List SyncCount)
counted_in rows h = slice_set rows (length rows - 1) (with_sync h (slice_index_or rows (length rows - 1) []))
