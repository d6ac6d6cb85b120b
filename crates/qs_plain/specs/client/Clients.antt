-- A client of the code: its stage, what is left of its block, what it has shown, and what is prepared for its later
-- blocks.
use Rattle.std.specs.Prelude.{◌≡◌, ◌<◌, ◌≤◌, ℕ, suc, ◌+◌, ◌-◌, List, [], drop, length, slice_index_or, slice_set, take, ℤ, sum_by, refl}
use Rattle.std.specs.Coded.{Coded, codes, code_by, coded×, coded_list, coded_ℕ, coded_ℤ}
use Rattle.qs_program.specs.audit.Program.{ProgramShape, BlockShape, block_at, blocks_of}
use Rattle.qs_meaning.specs.audit.Serial.{zeros}
use Rattle.qs_program.specs.Shapes.{program_code}
use Rattle.qs_plain_laws.specs.audit.Plain.{Client, out, within, waiting}
use Rattle.qs_plain_laws.specs.audit.Plain as plain
use Rattle.qs_plain.specs.client.Asking.{AreSound}
use Rattle.qs_plain.specs.client.Frames.{Frame, rest, next_of, load_left, places_of}
use Rattle.qs_plain.specs.client.FrameViews.{frame_code}
use Rattle.qs_plain.specs.client.TraceMoves.{no_trace}
use Rattle.qs_plain.specs.client.PreparedBlock.{PreparedState, IsStocked, prepared_of}
use Rattle.qs_plain.specs.client.Queues.{QueueState}
use Rattle.qs_played.specs.Played.{ClientRows}
use Rattle.qs_objects.specs.Traces.{TraceState, events_of, trace_at}
use Rattle.qs_program.specs.audit.Limits.{most_requests}
use Rattle.qs_sync_counts.specs.SyncRows.{AreFew}
use Rattle.qs_sync_counts.specs.declared.sync_counts.SyncCount.{SyncCount}
use Rattle.qs_plain.specs.declared.client.stage.Stage.{Stage}
use Rattle.qs_plain.specs.declared.client.stage.Stage.TheVariants as stage

pub record ClientState : Type 0 where
  pub program : ProgramShape
  pub number : ℕ
  pub stage : Stage
  pub locals : List ℤ
  pub frames : List Frame
  pub depth : ℕ
  pub entries : List (List ℤ)
  pub traces : List TraceState
  pub counts : List (List SyncCount)
  pub prepared : List PreparedState

abbrev pub stage_of : Stage → List Frame → List ℤ → plain.StageOfClient
stage_of stage.Out fs l = out l
stage_of stage.Within fs l = within (next_of fs l)
stage_of (stage.Waiting x) fs l = waiting (λ v. next_of fs (slice_set l x v))

-- the client of the plain rules
abbrev pub client_of_state : ClientState → Client
client_of_state d =
    record {
      stage = stage_of d.stage d.frames d.locals;
      entries = d.entries;
      traces = events_of d.traces;
      counts = d.counts;
    }

abbrev pub block_of_state : ClientState → ℕ → BlockShape
block_of_state d k = block_at d.program d.number k

-- the block that it is in
abbrev pub current_block : ClientState → BlockShape
current_block d = block_of_state d (length d.entries - 1)

abbrev pub current_trace : ClientState → TraceState
current_trace d = slice_index_or d.traces (length d.entries - 1) no_trace

abbrev pub current_counts : ClientState → List SyncCount
current_counts d = slice_index_or d.counts (length d.entries - 1) []

-- what is prepared for a block has room for all that the block can do
pub record IsReady (c k depth : ℕ) (b : BlockShape) (x : PreparedState) : Type 0 where
  pub frames : places_of (rest b.body) ≤ depth
  pub stocked : IsStocked c k b x

-- in a block: what is left is sound, and the trace has room for it and for a reply that is waited for
pub record IsWithin (d : ClientState) (waited : ℕ) : Type 0 where
  pub some : 0 < length d.entries
  pub sound : AreSound d.program.objects (current_block d).reserved d.frames
  pub room : sum_by (load_left d.frames) (current_block d).reserved + waited ≤ (current_trace d).room
  -- no more queries were asked than there are events, and the one that is waited for
  pub few : AreFew (suc (length (current_trace d).events + waited)) (current_counts d)

abbrev pub IsStaged : ClientState → Stage → Type 0
IsStaged d stage.Out = d.frames ≡ []
IsStaged d stage.Within = IsWithin d 0
IsStaged d (stage.Waiting x) = IsWithin d 1

pub record IsClient (d : ClientState) : Type 0 where
  pub number : d.number < length d.program.clients
  pub begun : length d.entries + length d.prepared ≡ blocks_of d.program d.number
  pub traces : length d.traces ≡ length d.entries
  pub counts : length d.counts ≡ length d.entries
  pub prepared : (i : ℕ) (x : PreparedState) → i < length d.prepared
      → IsReady d.number (length d.entries + i) d.depth (block_of_state d (length d.entries
      + i)) (slice_index_or d.prepared i x)
  pub staged : IsStaged d d.stage

pub stage_code : Coded Stage
stage_code = hlevel codes

pub trace_code : Coded TraceState
trace_code = hlevel codes

pub count_code : Coded SyncCount
count_code = hlevel codes

pub prepared_code : Coded PreparedState
prepared_code = hlevel codes

abbrev pub Fields : Type 0
Fields =
    ProgramShape × (ℕ × (Stage × (List ℤ × (List Frame
    × (ℕ × (List (List ℤ) × (List TraceState × (List (List SyncCount) × List PreparedState))))))))

abbrev pub client_code : Coded ClientState
client_code =
    code_by Fields
    (coded× program_code (coded× coded_ℕ (coded× stage_code
    (coded× (coded_list coded_ℤ) (coded× (coded_list frame_code)
    (coded× coded_ℕ (coded× (coded_list (coded_list coded_ℤ))
    (coded× (coded_list trace_code) (coded× (coded_list (coded_list count_code)) (coded_list prepared_code))))))))))
    (λ d. (
      d.program,
      (
        d.number,
        (
          d.stage,
          (
            d.locals,
            (
              d.frames,
              (d.depth, (d.entries, (d.traces, (d.counts, d.prepared)))),
            ),
          ),
        ),
      ),
    ))
    (λ p. record {
      program = p.0;
      number = p.1.0;
      stage = p.1.1.0;
      locals = p.1.1.1.0;
      frames = p.1.1.1.1.0;
      depth = p.1.1.1.1.1.0;
      entries = p.1.1.1.1.1.1.0;
      traces = p.1.1.1.1.1.1.1.0;
      counts = p.1.1.1.1.1.1.1.1.0;
      prepared = p.1.1.1.1.1.1.1.1.1;
    })
    (λ _. refl)

pub queues_code : Coded (List (ℕ × QueueState))
queues_code = hlevel codes

-- a client of the code by what it stores: the traces and counts of all its blocks, of which those that were begun come
-- first
abbrev pub client_from : ProgramShape → ℕ → Stage → List ℤ → List Frame → ℕ → List (List ℤ) → List TraceState
    → List (List SyncCount) → List (List (ℕ × QueueState)) → ClientState
client_from p c stage locals frames depth entries traces counts queues = record {
  program = p;
  number = c;
  stage = stage;
  locals = locals;
  frames = frames;
  depth = depth;
  entries = entries;
  traces = take (length entries) traces;
  counts = take (length entries) counts;
  prepared = prepared_of (drop (length entries) traces) (drop (length entries) counts) queues;
}

-- each block has its trace and its counts, and no trace grows beyond the whole load
pub record AreStored (begun : ℕ) (traces : List TraceState) (counts : List (List SyncCount))
    (prepared : ℕ) : Type 0 where
  pub all_traces : length traces ≡ begun + prepared
  pub all_counts : length counts ≡ begun + prepared
  pub sizes : (k : ℕ) → length (trace_at traces k).events + (trace_at traces k).room ≤ most_requests

-- the rows of a client begin with what the plain rules say of its blocks
pub record AreRowsOf (rows : ClientRows) (it : Client) : Type 0 where
  pub entries : rows.entries ≡ it.entries
  pub traces : take (length it.entries) rows.traces ≡ it.traces
  pub counts : take (length it.entries) rows.counts ≡ it.counts
  pub traced : length it.entries ≤ length rows.traces
  pub counted : length it.entries ≤ length rows.counts

-- before its first block
pub record IsFresh (p : ProgramShape) (c : ℕ) (d : ClientState) : Type 0 where
  pub program : d.program ≡ p
  pub number : d.number ≡ c
  pub stage : d.stage ≡ stage.Out
  pub locals : d.locals ≡ zeros
  pub entries : d.entries ≡ []
  pub traces : d.traces ≡ []
  pub counts : d.counts ≡ []
  pub prepared : length d.prepared ≡ blocks_of p c

-- no client
abbrev pub absent : ClientState
absent = record {
  program = record { objects = []; clients = [] };
  number = 0;
  stage = stage.Out;
  locals = [];
  frames = [];
  depth = 0;
  entries = [];
  traces = [];
  counts = [];
  prepared = [];
}

abbrev pub client_state_at : List ClientState → ℕ → ClientState
client_state_at cs c = slice_index_or cs c absent
