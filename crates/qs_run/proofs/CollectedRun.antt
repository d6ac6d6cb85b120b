-- What all workers gave back, once it is joined, is a run of threads (`IsThreadRun`), so the law of running threads
-- speaks of it. What a worker says of itself is not enough for that: that a client's tickets are in the order, that a
-- handler took all that was pushed to it, and that what went into a lane came out of it, is known only after the
-- comparisons. A run of threads has functions of numbers, and the workers are lists; so the deeds and the mind of a
-- client, and the tasks and the object of a handler, are looked up in these lists.
use Rattle.std.proofs.Common.{◌≡◌, ◌<◌, ℕ, true, false, List, [], Option, Some, None, length, slice_get, sym, ap, ◌∙◌, subst, arith, IsSome, rules}
use Rattle.qs_run.proofs.Names.{AllByRecursion, AreCodes, AreEndsJoined, AreOneLane, ClientCode, ClientHasRun, ClientModel, ClientWorker, Deed, HandlerHasServed, HandlerWorker, HasTakenAll}
use Rattle.qs_run.proofs.Names.{HaveRun, HeldState, InView, IsBooked, IsCodeOf, IsLaneRun, IsLegal, IsSound, IsThreadRun, Mode, OutView, Parcel, ProgramShape, RunsTo, ShareView, Task}
use Rattle.qs_run.proofs.Names.{TasksLead, ThreadRun, Ticket, TicketsView, blocks_of, closed, free, fresh_held, fresh_mind, given_to, got_from, length_all_zip, mind_of, no_block_beyond}
use Rattle.qs_run.proofs.Names.{of_client, pushed_to, received_from, reservations, reserved_inside, reserves, sent_to, slice_get_past, taken_by, ticket}
use Rattle.qs_handler.proofs.RunTurns.{handlers_take_turns}
use Rattle.qs_run.specs.client.ClientThreads as running
use Rattle.qs_run.specs.handler.HandlerThreads as handling
use Rattle.qs_run.proofs.ListPlaces.{IsBothAt, all_at, both_at, there}

-- all that is known of the workers together once they are joined
module _ {D : Type 0} where
  pub record IsCollected (p : ProgramShape) (order : List Ticket) (handlers : List (HandlerWorker D)) (clients : List (ClientWorker D)) : Type 0 where
    pub legal : IsLegal p order
    pub booked : AllByRecursion (IsBooked order) clients
    pub taken_all : AllByRecursion (HasTakenAll p order) handlers
    pub lanes : (c h : ℕ) (w : ClientWorker D) (r : HandlerWorker D) → slice_get clients c ≡ Some w → slice_get handlers h ≡ Some r
        → AreEndsJoined (running.out_lane_at w.lanes h) (handling.in_lane_at r.lanes c)

-- the code of no client
abbrev pub no_code : ClientCode
no_code = record { dynamic = false; blocks = [] }

-- a lane that a client may need, from both its ends before and after the run
pub lane_run : (size c h : ℕ) (deeds : List Deed) (tasks : List Task) (a b : Option OutView) (u v : Option InView)
    → IsSome a → running.IsFresh size a → running.HasDone h deeds a b → AreOneLane a u → handling.HasServed c tasks u v → AreEndsJoined b v
    → IsLaneRun size (sent_to h deeds) (received_from c tasks) (given_to c tasks) (got_from h deeds)
lane_run size c h deeds tasks None b u v some fresh done one served joined = cc
lane_run size c h deeds tasks (Some a) None u v some fresh done one served joined = absurd done
lane_run size c h deeds tasks (Some a) (Some b) None v some fresh done one served joined = absurd one
lane_run size c h deeds tasks (Some a) (Some b) (Some u) None some fresh done one served joined = absurd served
lane_run size c h deeds tasks (Some a) (Some b) (Some u) (Some v) some fresh done one served joined =
    subst (λ (q : ℕ × (List Parcel × (List Parcel × (List HeldState × List HeldState)))). IsLaneRun q.0 q.1.0 q.1.1.0 q.1.1.1.0 q.1.1.1.1)
    (λ i. ((done.1 ∙ fresh.0) i, (done.2 i, (served.2 i, (served.3 i, done.3 i))))) joined

module _ {D : Type 0} where
  -- what is read of a worker that may not be there
  abbrev pub code_in : Option (ClientWorker D) → ClientCode
  code_in None = no_code
  code_in (Some w) = (mind_of w.mind).code

  abbrev pub mind_in : Option (ClientWorker D) → ClientModel
  mind_in None = fresh_mind no_code 0
  mind_in (Some w) = mind_of w.mind

  abbrev pub held_in : HeldState → Option (HandlerWorker D) → HeldState
  held_in x None = x
  held_in x (Some w) = w.held

  abbrev pub deeds_in : Option ((x : ClientWorker D) × (y : ClientWorker D) × ClientHasRun x y) → List Deed
  deeds_in None = []
  deeds_in (Some b) = b.2.deeds

  abbrev pub tasks_in : {p : ProgramShape} → Option ((x : HandlerWorker D) × (y : HandlerWorker D) × HandlerHasServed p x y) → List Task
  tasks_in None = []
  tasks_in (Some b) = b.2.tasks

-- there is a worker after the run for each that the program has
module _ {D : Type 0} (p : ProgramShape) (mode : Mode) (size : ℕ) (handlers : List (HandlerWorker D)) (clients : List (ClientWorker D))
    (ran : HaveRun p mode size handlers clients) where
  pub handlers_many : length handlers ≡ length p.objects
  handlers_many = sym (length_all_zip (HandlerHasServed p) ran.before_handlers handlers ran.served) ∙ ran.ready.all_handlers.many

  pub clients_many : length clients ≡ length p.clients
  clients_many = sym (length_all_zip ClientHasRun ran.before_clients clients ran.ran) ∙ ran.ready.all_clients.many

module _ {D : Type 0} (p : ProgramShape) (sound : IsSound p) (mode : Mode) (size : ℕ) (order : List Ticket) (handlers : List (HandlerWorker D))
    (clients : List (ClientWorker D)) (ran : HaveRun p mode size handlers clients) (joined : IsCollected p order handlers clients) where
  abbrev pub code : ℕ → ClientCode
  code c = code_in (slice_get ran.before_clients c)

  abbrev pub threads : ThreadRun
  threads = record {
    order = order;
    deeds = λ c. deeds_in (both_at ClientHasRun ran.before_clients clients ran.ran c);
    mind = λ c. mind_in (slice_get clients c);
    tasks = λ h. tasks_in (both_at (HandlerHasServed p) ran.before_handlers handlers ran.served h);
    held = λ h. held_in (fresh_held p h) (slice_get handlers h);
  }

  client_at : (c : ℕ) → c < length p.clients → IsBothAt ClientHasRun ran.before_clients clients ran.ran c
  client_at c own = there ClientHasRun ran.before_clients clients ran.ran c (let all = ran.ready.all_clients.many in omega (arith, own, all))

  handler_at : (h : ℕ) → h < length p.objects → IsBothAt (HandlerHasServed p) ran.before_handlers handlers ran.served h
  handler_at h own = there (HandlerHasServed p) ran.before_handlers handlers ran.served h (let all = ran.ready.all_handlers.many in omega (arith, own, all))

  client_runs : (c : ℕ) → c < length p.clients → RunsTo c (fresh_mind (code c) size) (threads.deeds c) (threads.mind c)
  client_runs c own =
      let a = client_at c own in
      let ready = (ran.ready.all_clients.each c a.first a.first_is).0 in
      let begins : mind_of a.first.mind ≡ fresh_mind (code c) size = ready.mind.begins ∙ ap (λ k. fresh_mind k size) (sym (ap code_in a.first_is)) in
      let did = sym (ap deeds_in a.is) in
      let ends = sym (ap mind_in a.second_is) in
      subst (λ (q : ℕ × (ClientModel × (List Deed × ClientModel))). RunsTo q.0 q.1.0 q.1.1.0 q.1.1.1) (λ i. (ready.number i, (begins i, (did i, ends i)))) a.related.ran

  handler_runs : (h : ℕ) → h < length p.objects → TasksLead (free (fresh_held p h)) (threads.tasks h) (closed (threads.held h))
  handler_runs h own =
      let a = handler_at h own in
      let ready = (ran.ready.all_handlers.each h a.first a.first_is).0 in
      let did = sym (ap tasks_in a.is) in
      let ends = sym (ap (held_in (fresh_held p h)) a.second_is) in
      subst (λ (q : HeldState × (List Task × HeldState)). TasksLead (free q.0) q.1.0 (closed q.1.1)) (λ i. (ready.object i, (did i, ends i))) a.related.served.lead

  booked : (c : ℕ) → c < length p.clients → length (of_client c order) ≡ reservations (threads.deeds c)
  booked c own =
      let a = client_at c own in
      let ready = (ran.ready.all_clients.each c a.first a.first_is).0 in
      let share = a.related.done.booked in
      let here = all_at (IsBooked order) clients c a.second joined.booked a.second_is in
      ap (λ n. length (of_client n order)) (sym (ap (λ (w : ShareView). w.client) share ∙ ready.number))
      ∙ (here ∙ (ap (λ (w : ShareView). w.count) share ∙ ap reservations (sym (ap deeds_in a.is))))

  -- it took the closing mark at last, as it ended closed
  taken : (h : ℕ) → h < length p.objects → pushed_to p h order true ≡ taken_by (threads.tasks h)
  taken h own =
      let a = handler_at h own in
      let ready = (ran.ready.all_handlers.each h a.first a.first_is).0 in
      let queue = a.related.served.queue in
      let turns = handlers_take_turns a.first.held a.second.held a.related.tasks a.related.served.lead in
      let took = ap (λ (w : TicketsView). w.taken) queue in
      let here = all_at (HasTakenAll p order) handlers h a.second joined.taken_all a.second_is _ (took ∙ turns.taken) in
      ap (λ n. pushed_to p n order true) (sym (ap (λ (w : TicketsView). w.handler) queue ∙ ready.number))
      ∙ (here ∙ (took ∙ ap taken_by (sym (ap tasks_in a.is))))

  lanes : (c k h : ℕ) → k < blocks_of p c → reserves p (ticket c k) h ≡ true
      → IsLaneRun size (sent_to h (threads.deeds c)) (received_from c (threads.tasks h)) (given_to c (threads.tasks h)) (got_from h (threads.deeds c))
  lanes c k h few own =
      let a = client_at c (no_block_beyond p c (omega (arith, few))) in
      let b = handler_at h (reserved_inside p sound (ticket c k) h own) in
      let start = (ran.ready.all_clients.each c a.first a.first_is).0 in
      let ready = (ran.ready.all_clients.each c a.first a.first_is).1 in
      let same = sym start.number in
      let some = ready.reached k h (subst (λ n. k < blocks_of p n) same few) (subst (λ n. reserves p (ticket n k) h ≡ true) same own) in
      let fresh = subst (λ n. running.IsFresh n (running.out_lane_at a.first.lanes h)) (ap (λ (m : ClientModel). m.size) start.mind.begins) (ready.fresh h) in
      let run = lane_run size c h a.related.deeds b.related.tasks (running.out_lane_at a.first.lanes h) (running.out_lane_at a.second.lanes h)
      (handling.in_lane_at b.first.lanes c) (handling.in_lane_at b.second.lanes c) some fresh (a.related.done.ends h)
      (ran.ready.lanes c h a.first b.first a.first_is b.first_is) (b.related.served.ends c) (joined.lanes c h a.second b.second a.second_is b.second_is) in
      subst (λ (q : List Deed × List Task). IsLaneRun size (sent_to h q.0) (received_from c q.1) (given_to c q.1) (got_from h q.0))
      (λ i. (sym (ap deeds_in a.is) i, sym (ap tasks_in b.is) i)) run

  pub codes : AreCodes p mode code
  codes = record {
    own = λ c own.
        let a = client_at c own in
        subst (λ k. IsCodeOf p mode c k) (sym (ap code_in a.first_is)) (ran.ready.all_clients.each c a.first a.first_is).0.mind.code;
    none = grind (arith, slice_get_past, ran);
  }

  pub threads_run : IsThreadRun p code size threads
  threads_run = record { legal = joined.legal; booked = booked; taken = taken; lanes = lanes; clients = client_runs; handlers = handler_runs }
