-- What a client's moves do to it.
use Rattle.std.specs.Prelude.{◌≡◌, ◌≤◌, ℕ, ◌==◌, if◌then◌else◌, true, List, [], ◌∷◌, ◌++◌, length, slice_set, ℤ, Option, None}
use Rattle.qs_objects.specs.declared.Request.{Request}
use Rattle.qs_meaning.specs.audit.Interaction.{Done, Call, Query}
use Rattle.qs_meaning.specs.audit.Solo.{event, value_of}
use Rattle.qs_program.specs.audit.Sound.{is_in}
use Rattle.qs_program.specs.audit.Values.{request_of}
use Rattle.qs_sync_counts.specs.declared.sync_counts.SyncCount.{SyncCount}
use Rattle.qs_plain.specs.client.Clients.{ClientState, block_of_state}
use Rattle.qs_plain.specs.client.PreparedBlock.{PreparedState}
use Rattle.qs_plain.specs.client.TraceMoves.{counted_in, noted_in}
use Rattle.qs_plain.specs.client.Frames.{Frame, rest, next_of}
use Rattle.qs_plain.specs.client.Queues.{QueueState}
use Rattle.qs_objects.specs.Traces.{TraceState}
use Rattle.qs_plain.specs.declared.client.client.Asked.{Asked}
use Rattle.qs_plain.specs.declared.client.stage.Stage.{Stage}
use Rattle.qs_plain.specs.declared.client.client.Asked.TheVariants as asked
use Rattle.qs_plain.specs.declared.client.stage.Stage.TheVariants as stage

abbrev pub after_moves : ClientState → Stage → List ℤ → List Frame → List TraceState → List (List SyncCount)
    → ClientState
after_moves d s l fs ts cs = record {
  program = d.program;
  number = d.number;
  stage = s;
  locals = l;
  frames = fs;
  depth = d.depth;
  entries = d.entries;
  traces = ts;
  counts = cs;
  prepared = d.prepared;
}

-- a block begins, with what is prepared for it
abbrev pub begun_with : ClientState → PreparedState → List PreparedState → ClientState
begun_with d x later = record {
  program = d.program;
  number = d.number;
  stage = stage.Within;
  locals = d.locals;
  frames = d.frames ++ rest (block_of_state d (length d.entries)).body ∷ [];
  depth = d.depth;
  entries = d.entries ++ d.locals ∷ [];
  traces = d.traces ++ x.trace ∷ [];
  counts = d.counts ++ x.counts ∷ [];
  prepared = later;
}

pub record Begins (old : ClientState) (queues : List (ℕ × QueueState)) (new : ClientState) : Type 0 where
  pub first : PreparedState
  pub prepared : old.prepared ≡ first ∷ new.prepared
  pub handed : queues ≡ first.queues
  pub client : new ≡ begun_with old first new.prepared

-- what a client in a block asks, after its quiet moves
abbrev pub AsksNext : Asked → ClientState → ClientState → Type 0
AsksNext (asked.Command c) old new =
    (next_of old.frames old.locals ≡ Call (request_of new.locals c.now) (next_of new.frames new.locals))
    × (new ≡ after_moves old stage.Within new.locals new.frames
    (noted_in old.traces (event (request_of new.locals c.now) None)) old.counts)
AsksNext (asked.Query c) old new =
    (x : ℕ) × (next_of old.frames old.locals ≡ Query (request_of new.locals c.now)
    (λ v. next_of new.frames (slice_set new.locals x v)))
    × (new ≡ after_moves old (stage.Waiting x) new.locals new.frames old.traces (counted_in old.counts c.now.object))
AsksNext asked.End old new =
    (next_of old.frames old.locals ≡ Done new.locals)
    × (new ≡ after_moves old stage.Out new.locals [] old.traces old.counts)

-- how many requests on an object it makes
abbrev pub requested_of : Asked → ℕ → ℕ
requested_of (asked.Command c) h = if c.now.object == h then 1 else 0
requested_of (asked.Query c) h = if c.now.object == h then 1 else 0
requested_of asked.End h = 0

-- a request is on an object of the list
abbrev pub IsReserved : List ℕ → Asked → Type 0
IsReserved reserved (asked.Command c) = is_in reserved c.now.object ≡ true
IsReserved reserved (asked.Query c) = is_in reserved c.now.object ≡ true
IsReserved reserved asked.End = Unit {0}

-- a request has at most three arguments
abbrev pub IsShortAsk : Asked → Type 0
IsShortAsk (asked.Command c) = length c.now.args ≤ 3
IsShortAsk (asked.Query c) = length c.now.args ≤ 3
IsShortAsk asked.End = Unit {0}

-- a reply goes to a client that waits, and to no other
abbrev pub RepliesAt : Stage → ClientState → Request → Option ℤ → ClientState → Type 0
RepliesAt stage.Out old r v new = new ≡ old
RepliesAt stage.Within old r v new = new ≡ old
RepliesAt (stage.Waiting x) old r v new =
    new ≡ after_moves old stage.Within (slice_set old.locals x (value_of v)) old.frames
    (noted_in old.traces (event r v)) old.counts

abbrev pub Replies : ClientState → Request → Option ℤ → ClientState → Type 0
Replies old r v new = RepliesAt old.stage old r v new
