-- What `collect_outcome` shows is an outcome. Its calls say what each of them did, one after another, and change the
-- desk's name for itself and the handlers on the way; here all of it is said of the desk and the workers as they were
-- in the beginning, and the lemmas on these are brought together.
use Rattle.std.proofs.Common.{◌≡◌, ◌≤◌, ℕ, List, length, map, sym, ap, ◌∙◌, subst, rules, arith}
use Rattle.qs_played.proofs.Names.{AllByRecursion, State, Entry, Ticket, ProgramShape, IsSound, IsLegal, ClientRows, HaveRows}
use Rattle.qs_program.specs.Limits.{most_tickets}
use Rattle.qs_syncset.specs.declared.mode.Mode.{Mode}
use Rattle.qs_run.proofs.Names.{DeskView, IsOutcome, HaveRun, ClientWorker, HandlerWorker, AreAllJoined, AreCountsShort, HasTakenAll, IsBooked, worker_journal, worker_rows, shown_when_over, worker_state, without_lanes_below}
use Rattle.qs_desk.proofs.Orders as orders
use Rattle.qs_run.proofs.CollectedWorkers.{all_collected, journals_still, states_still}
use Rattle.qs_run.proofs.ShownOutcome.{have_rows, outcome, short}
use Rattle.qs_run.proofs.CollectedRun.{IsCollected}

-- what these lists show is an outcome, and it can be shown
pub record IsShowable (p : ProgramShape) (mode : Mode) (size : ℕ) (order : List Ticket) (rows : List ClientRows) (journals : List (List Entry)) (states : List State) : Type 0 where
  pub few : length order ≤ most_tickets
  pub rows_there : HaveRows rows order
  pub short_rows : AreCountsShort rows order
  pub is_outcome : IsOutcome p mode size (shown_when_over order rows journals states)

module _ {D : Type 0} (p : ProgramShape) (sound : IsSound p) (mode : Mode) (size : ℕ) (handlers : List (HandlerWorker D)) (clients : List (ClientWorker D))
    (ran : HaveRun p mode size handlers clients) where
  by_collected : (order : List Ticket) → IsCollected p order handlers clients → IsShowable p mode size order (map worker_rows clients) (map worker_journal handlers) (map worker_state handlers)
  by_collected order joined = search (rules, orders.short, have_rows, short, outcome)

  -- the desk before, after the clients and after the handlers were collected; the handlers before, and without their
  -- lanes
  pub all_showable : (before after last : DeskView) (old left : List (HandlerWorker D)) (n : ℕ) (order : List Ticket) (rows : List ClientRows)
      (journals : List (List Entry)) (states : List State)
      → old ≡ handlers → after ≡ before → last ≡ after → left ≡ map (without_lanes_below n) old
      → AllByRecursion (IsBooked before.history) clients → AreAllJoined old clients → AllByRecursion (HasTakenAll p after.history) left
      → order ≡ last.history → IsLegal p last.history → rows ≡ map worker_rows clients → journals ≡ map worker_journal left → states ≡ map worker_state left
      → IsShowable p mode size order rows journals states
  all_showable before after last old left n order rows journals states old_is after_is last_is left_is booked joined taken_all order_is legal rows_are journals_are states_are =
      let desk : last ≡ before = last_is ∙ after_is in
      let left_of : left ≡ map (without_lanes_below n) handlers = left_is ∙ ap (map (without_lanes_below n)) old_is in
      let all = all_collected p before.history n handlers left clients (subst (λ (d : DeskView). IsLegal p d.history) desk legal) booked
      (subst (λ hs. AreAllJoined hs clients) old_is joined) left_of (subst (λ (d : DeskView). AllByRecursion (HasTakenAll p d.history) left) after_is taken_all) in
      let orders_are : order ≡ before.history = order_is ∙ ap (λ (d : DeskView). d.history) desk in
      let journals_of : journals ≡ map worker_journal handlers = journals_are ∙ (ap (map worker_journal) left_of ∙ journals_still n handlers) in
      let states_of : states ≡ map worker_state handlers = states_are ∙ (ap (map worker_state) left_of ∙ states_still n handlers) in
      subst (λ (q : List Ticket × (List ClientRows × (List (List Entry) × List State))). IsShowable p mode size q.0 q.1.0 q.1.1.0 q.1.1.1)
      (λ i. (sym orders_are i, (sym rows_are i, (sym journals_of i, sym states_of i)))) (by_collected before.history all)
