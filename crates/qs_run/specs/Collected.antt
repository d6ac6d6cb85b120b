-- What the workers gave back, once it is joined. A client's share is compared with the desk's order, a handler's
-- tickets with what was pushed to it, and the two ends of each lane with one another; then the clients' rows and the
-- handlers' objects are what the run shows.
use Rattle.std.specs.Prelude.{◌≡◌, ◌≤◌, ℕ, zero, suc, true, List, [], ◌∷◌, ◌++◌, Option, Some, None, length, map, slice_get, slice_set, sum_by}
use Rattle.std.specs.List.{AllByRecursion}
use Rattle.qs_objects.specs.audit.Act.{State}
use Rattle.qs_objects.specs.declared.held.Entry.{Entry}
use Rattle.qs_objects.specs.declared.held.Next.{Next}
use Rattle.qs_objects.specs.declared.held.Next.TheVariants.{Closed}
use Rattle.qs_objects.specs.declared.held.Ticket.{Ticket}
use Rattle.qs_program.specs.audit.Limits.{most_objects}
use Rattle.qs_program.specs.audit.Program.{ProgramShape}
use Rattle.qs_sync_counts.specs.audit.SyncRows.{syncs_of}
use Rattle.qs_chunk.specs.audit.LaneRun.{IsLaneRun}
use Rattle.qs_client.specs.MindState.{MindState, mind_of}
use Rattle.qs_run.specs.client.ClientThreads as running
use Rattle.qs_run.specs.handler.HandlerThreads as handling
use Rattle.qs_desk.specs.audit.Tickets.{of_client, pushed_to}
use Rattle.qs_lane.specs.Views.{InView, OutView}
use Rattle.qs_played.specs.audit.Played.{Played}
use Rattle.qs_played.specs.Played.{ClientRows, counts_of_ticket, shown_with}
use Rattle.qs_run.specs.Workers.{AreOneLane}
use Rattle.qs_run.specs.declared.worker.ClientWorker.{ClientWorker}
use Rattle.qs_run.specs.declared.worker.HandlerWorker.{HandlerWorker}

-- Where both ends of a lane are there, what they had is the run of one lane.
abbrev pub AreEndsJoined : Option OutView → Option InView → Type 0
AreEndsJoined None inside = Unit {0}
AreEndsJoined (Some out) None = Unit {0}
AreEndsJoined (Some out) (Some inside) = IsLaneRun out.size out.sent inside.received inside.given out.got

-- the rows of blocks that a client's mind has written
abbrev pub rows_in : MindState → ClientRows
rows_in m = record { traces = (mind_of m).traces; entries = (mind_of m).entries; counts = (mind_of m).counts }

module _ {D : Type 0} where
  -- The order has as many tickets of the client as its share says.
  abbrev pub IsBooked : List Ticket → ClientWorker D → Type 0
  IsBooked order w = length (of_client w.share.client order) ≡ w.share.count

  -- If the handler took the closing mark, then it took all that was pushed to it.
  abbrev pub HasTakenAll : ProgramShape → List Ticket → HandlerWorker D → Type 0
  HasTakenAll p order w =
      (before : List Next) → w.tickets.taken ≡ before ++ Closed ∷ []
      → pushed_to p w.tickets.handler order true ≡ w.tickets.taken

  -- what is shown of a client, and of a handler
  abbrev pub worker_rows : ClientWorker D → ClientRows
  worker_rows w = rows_in w.mind

  abbrev pub worker_journal : HandlerWorker D → List Entry
  worker_journal w = w.held.journal

  abbrev pub worker_state : HandlerWorker D → State
  worker_state w = w.held.object

  -- a handler's worker once its end of the lane from client c was taken out, and once those from the first n clients
  -- were
  abbrev pub without_lane_of : ℕ → HandlerWorker D → HandlerWorker D
  without_lane_of c w = record w { lanes = slice_set w.lanes c None }

  abbrev pub without_lanes_below : ℕ → HandlerWorker D → HandlerWorker D
  without_lanes_below zero w = w
  without_lanes_below (suc n) w = without_lane_of n (without_lanes_below n w)

  -- Each end of client c and the end that the handler has from it are the two ends of one lane; and then: they are
  -- joined.
  abbrev pub AreLanesPaired : List (Option OutView) → ℕ → List (HandlerWorker D) → Type 0
  AreLanesPaired lanes c handlers =
      (h : ℕ) (w : HandlerWorker D) → slice_get handlers h ≡ Some w
      → AreOneLane (running.out_lane_at lanes h) (handling.in_lane_at w.lanes c)

  abbrev pub AreLanesJoined : List (Option OutView) → ℕ → List (HandlerWorker D) → Type 0
  AreLanesJoined lanes c handlers =
      (h : ℕ) (w : HandlerWorker D) → slice_get handlers h ≡ Some w
      → AreEndsJoined (running.out_lane_at lanes h) (handling.in_lane_at w.lanes c)

  -- the same of all clients
  abbrev pub AreAllPaired : List (HandlerWorker D) → List (ClientWorker D) → Type 0
  AreAllPaired handlers clients =
      (c : ℕ) (w : ClientWorker D) → slice_get clients c ≡ Some w → AreLanesPaired w.lanes c handlers

  abbrev pub AreAllJoined : List (HandlerWorker D) → List (ClientWorker D) → Type 0
  AreAllJoined handlers clients =
      (c : ℕ) (w : ClientWorker D) → slice_get clients c ≡ Some w → AreLanesJoined w.lanes c handlers

-- Each block of the order has counts of synchronisations for eight objects at most.
abbrev pub AreCountsShort : List ClientRows → List Ticket → Type 0
AreCountsShort rows order = AllByRecursion (λ t. length (counts_of_ticket rows t) ≤ most_objects) order

-- what is shown, by these lists, of a run in which each block has ended: its synchronisations are those of all blocks
-- together
abbrev pub shown_when_over : List Ticket → List ClientRows → List (List Entry) → List State → Played
shown_when_over order rows journals states =
    shown_with order (map (λ t. true) order) rows journals states (sum_by syncs_of (map (counts_of_ticket rows) order))
    true
