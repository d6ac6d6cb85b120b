-- What `collect_outcome` knows of the workers: their lanes belong together in pairs, as they did before the run, so
-- that they can be joined; there are no more workers than there is room for; and in the end all is known of them that
-- makes a run of threads (`IsCollected`). When the handlers are collected, their ends of lanes have been taken out
-- already, but their tickets, journals and states are as before.
use Rattle.std.proofs.Common.{◌≡◌, ◌≤◌, ℕ, zero, suc, true, List, [], ◌∷◌, ◌++◌, Option, length, map, refl, ap, subst, arith, rules}
use Rattle.qs_run.proofs.Names.{AllByRecursion, AreAllJoined, AreAllPaired, AreOneLane, ClientWorker, Deed, HandlerWorker, HasTakenAll, HaveRun, HeldState, InView, IsBooked, IsLegal}
use Rattle.qs_run.proofs.Names.{IsSound, Mode, Next, OutView, ProgramShape, Task, Ticket, TicketsView, most_handlers, pushed_to, without_lanes_below, worker_journal, worker_state}
use Rattle.qs_objects.specs.declared.held.Next.TheVariants.{Closed}
use Rattle.qs_run.specs.client.ClientThreads as running
use Rattle.qs_run.specs.handler.HandlerThreads as handling
use Rattle.qs_run.proofs.ListPlaces.{first_of, map_still}
use Rattle.qs_run.proofs.CollectedRun.{IsCollected, handlers_many}

-- what `HasTakenAll` says, by the tickets alone
abbrev TakesAll : ProgramShape → List Ticket → TicketsView → Type 0
TakesAll p order t = (before : List Next) → t.taken ≡ before ++ Closed ∷ [] → pushed_to p t.handler order true ≡ t.taken

-- the names of ends stay, so the ends of one lane are those of one lane after the run too
one_lane_still : (h c : ℕ) (deeds : List Deed) (tasks : List Task) (a b : Option OutView) (u v : Option InView)
    → running.HasDone h deeds a b → AreOneLane a u → handling.HasServed c tasks u v → AreOneLane b v
one_lane_still h c deeds tasks w z u v done one served = search rules

module _ {D : Type 0} where
  module _ (p : ProgramShape) (mode : Mode) (size : ℕ) (handlers : List (HandlerWorker D)) (clients : List (ClientWorker D))
      (ran : HaveRun p mode size handlers clients) where
    pub all_paired : AreAllPaired handlers clients
    all_paired c w es h r er = search (rules, first_of, ran, one_lane_still, w)

    pub few_handlers : IsSound p → length handlers ≤ most_handlers
    few_handlers sound = search (rules, handlers_many)

  -- a handler without lanes has its tickets, its journal and its state still
  still : (n : ℕ) (w : HandlerWorker D) → ((without_lanes_below n w).tickets ≡ w.tickets) × ((without_lanes_below n w).held ≡ w.held)
  still zero w = (refl, refl)
  still (suc n) w = still n w

  pub journals_still : (n : ℕ) (hs : List (HandlerWorker D)) → map worker_journal (map (without_lanes_below n) hs) ≡ map worker_journal hs
  journals_still n = map_still worker_journal (without_lanes_below n) (λ w. ap (λ (x : HeldState). x.journal) (still n w).1)

  pub states_still : (n : ℕ) (hs : List (HandlerWorker D)) → map worker_state (map (without_lanes_below n) hs) ≡ map worker_state hs
  states_still n = map_still worker_state (without_lanes_below n) (λ w. ap (λ (x : HeldState). x.object) (still n w).1)

  all_taken_before : (p : ProgramShape) (order : List Ticket) (n : ℕ) (hs : List (HandlerWorker D)) → AllByRecursion (HasTakenAll p order) (map (without_lanes_below n) hs)
      → AllByRecursion (HasTakenAll p order) hs
  all_taken_before p order n [] all = tt
  all_taken_before p order n (w ∷ hs) all = (subst (TakesAll p order) (still n w).0 all.0, all_taken_before p order n hs all.1)

  pub all_collected : (p : ProgramShape) (order : List Ticket) (n : ℕ) (handlers left : List (HandlerWorker D)) (clients : List (ClientWorker D)) → IsLegal p order
      → AllByRecursion (IsBooked order) clients → AreAllJoined handlers clients → left ≡ map (without_lanes_below n) handlers → AllByRecursion (HasTakenAll p order) left
      → IsCollected p order handlers clients
  all_collected p order n handlers left clients legal booked joined is followed = search (rules, all_taken_before)
