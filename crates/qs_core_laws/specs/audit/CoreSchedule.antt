-- Schedules of the optimised machine, and what a run shows after them.
use Rattle.std.specs.Prelude.{ℕ, Bool, true, ◌&&◌, nat_eq, List, [], ◌∷◌, map, length, sum_by, Option, Some, None}
use Rattle.std.specs.List.{range_with_len}
use Rattle.qs_objects.specs.audit.Journals.{HeldState}
use Rattle.qs_objects.specs.declared.held.Ticket.{Ticket}
use Rattle.qs_program.specs.audit.Program.{ProgramShape, blocks_of}
use Rattle.qs_meaning.specs.audit.Serial.{no_state}
use Rattle.qs_syncset.specs.audit.Codes.{ClientCode}
use Rattle.qs_chunk.specs.audit.LaneParts.{away_at}
use Rattle.qs_handler.specs.audit.Handler.{Handler, free, serves, spares, gives, away, closed, is_free}
use Rattle.qs_client.specs.audit.ClientModel.{is_between, has_ended}
use Rattle.qs_played.specs.audit.Schedule.{plays_by}
use Rattle.qs_played.specs.declared.schedule.actor.Actor.{Actor}
use Rattle.qs_played.specs.audit.Played.{Played}
use Rattle.qs_core_laws.specs.audit.Core.{Core, core_step}

-- one step of each actor of a list, in this order
abbrev pub core_plays : (ℕ → ClientCode) → ℕ → List Actor → Core → Core
core_plays code size actors s = plays_by (core_step code size) actors s

-- the object with its journal, wherever it is
abbrev pub found_by : Core → ℕ → Handler → Option HeldState
found_by s h (free x) = Some x
found_by s h (serves t x) = Some x
found_by s h (spares t x n) = Some x
found_by s h (gives t x) = Some x
found_by s h (away t) = away_at (s.up t.client h) (s.down t.client h) ((s.client t.client).held h)
found_by s h (closed x) = Some x

abbrev pub held_or_none : Option HeldState → HeldState
held_or_none None = record { object = no_state; journal = []; room = 0 }
held_or_none (Some x) = x

abbrev pub held_now : Core → ℕ → HeldState
held_now s h = held_or_none (found_by s h (s.handler h))

abbrev pub all_of : (ℕ → Bool) → List ℕ → Bool
all_of is [] = true
all_of is (n ∷ ns) = is n && all_of is ns

-- a client is between two blocks, with none to come
abbrev pub is_done : ProgramShape → Core → ℕ → Bool
is_done p s c = is_between (s.client c).stage && nat_eq (s.client c).begun (blocks_of p c)

-- a handler has its object and serves nobody, and nothing lies in its queue or in a lane to it
abbrev pub is_idle : ProgramShape → Core → ℕ → Bool
is_idle p s h =
    is_free (s.handler h) && nat_eq (length (s.tickets h)) 0
    && all_of (λ c. nat_eq (length (s.down c h)) 0) (range_with_len 0 (length p.clients))

abbrev pub is_finished : ProgramShape → Core → Bool
is_finished p s =
    all_of (is_done p s) (range_with_len 0 (length p.clients))
    && all_of (is_idle p s) (range_with_len 0 (length p.objects))

-- what a run has shown
abbrev pub core_played : ProgramShape → Core → Played
core_played p s = record {
  order = s.order;
  ended = map (λ (t : Ticket). has_ended (s.client t.client) t.index) s.order;
  entries = map s.entry s.order;
  traces = map s.trace s.order;
  sync_counts = map s.sync_counts s.order;
  journals = map (λ h. (held_now s h).journal) (range_with_len 0 (length p.objects));
  states = map (λ h. (held_now s h).object) (range_with_len 0 (length p.objects));
  syncs = sum_by s.syncs (range_with_len 0 (length p.clients));
  finished = is_finished p s;
}
