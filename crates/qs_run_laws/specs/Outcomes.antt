-- Beside what the headline reaches (`audit/Outcomes.antt`): what else contracts and proofs use.
use Rattle.std.specs.Prelude.{◌≡◌, ◌<◌, ℕ, true, List, [], filter, flat_map, length, map}
use Rattle.std.specs.List.{range_with_len}
use Rattle.qs_objects.specs.audit.Parts.{part, same}
use Rattle.qs_objects.specs.Parts.{stamp}
use Rattle.qs_objects.specs.declared.held.Entry.{Entry}
use Rattle.qs_objects.specs.declared.held.Ticket.{Ticket}
use Rattle.qs_program.specs.audit.Program.{ProgramShape, blocks_of}
use Rattle.qs_program.specs.Sound.{IsSound}
use Rattle.qs_meaning.specs.audit.Serial.{IsLegal}
use Rattle.qs_meaning.specs.Serial.{SerialBlock, serial}
use Rattle.qs_syncset.specs.audit.Codes.{ClientCode, AreCodes}
use Rattle.qs_syncset.specs.declared.mode.Mode.{Mode}
use Rattle.qs_played.specs.Isolation.{IsIsolated}
use Rattle.qs_played.specs.audit.Played.{Played}
use Rattle.qs_played.specs.SyncSums.{AreSyncsCounted}
use Rattle.qs_run_laws.specs.audit.ThreadRuns.{IsThreadRun, ThreadRun, shown_by}
use Rattle.qs_run_laws.specs.audit.Outcomes.{IsShownByThreads}

-- a ticket's part on an object, as it stands in the object's journal
abbrev pub part_at : ℕ → SerialBlock → List Entry
part_at h q = map (stamp q.ticket) (part h q.trace)

-- Threads that were compiled in this mode and had chunks of this size have shown it. The order is legal, and each block
-- of the program stands in it exactly once. The variables at entry and the traces are those of the serial run of that
-- order; each object's journal is the serial run's requests on it, one ticket after another, and its state is the one
-- that the serial run leaves. Each block has ended, and the run is finished; so it is isolated with nothing on its way,
-- and its synchronisations are the exact counts of its mode.
pub record IsOutcome (p : ProgramShape) (mode : Mode) (size : ℕ) (o : Played) : Type 0 where
  pub by_threads : IsShownByThreads p mode size o
  pub legal : IsLegal p o.order
  pub once : (t : Ticket) → t.index < blocks_of p t.client → length (filter (same t) o.order) ≡ 1
  pub entries : o.entries ≡ map (λ (q : SerialBlock). q.entry) (serial p o.order).places
  pub traces : o.traces ≡ map (λ (q : SerialBlock). q.trace) (serial p o.order).places
  pub journals : o.journals ≡ map (λ h. flat_map (part_at h) (serial p o.order).places)
      (range_with_len 0 (length p.objects))
  pub states : o.states ≡ map (serial p o.order).states (range_with_len 0 (length p.objects))
  pub ended : o.ended ≡ map (λ t. true) o.order
  pub finished : o.finished ≡ true
  pub isolated : IsIsolated p o (λ h t. [])
  pub counted : AreSyncsCounted p mode o

-- The law of running threads, for every checked program, mode, chunk size and run: what the threads did is what the
-- blocks do alone, one after another along the order of reservations.
abbrev pub ThreadRunsHaveOutcomes : Type 0
ThreadRunsHaveOutcomes =
    (p : ProgramShape) → IsSound p → (mode : Mode) (code : ℕ → ClientCode) → AreCodes p mode code
    → (size : ℕ) (r : ThreadRun)
    → IsThreadRun p code size r → IsOutcome p mode size (shown_by p r)
