-- One proof of isolation for every machine. A machine hands over an abstract run: what it shows, and beside that a
-- block record for each ticket (its entry, its trace and what is left of its block), each object's journal and state,
-- and the commands on their way. Where each journal flows through the order of reservations, ticket by ticket, the
-- serial run along that order has the same entries, traces and states; so the run that is shown is isolated. Nothing
-- here knows of queues, lanes or threads.
use Rattle.std.proofs.Common.{◌≡◌, ◌<◌, ℕ, zero, suc, true, List, [], ◌∷◌, ◌++◌, map, flat_map, length, get_or, refl, ap, sym, subst, ◌∙◌, inl, inr, arith, append-nil, rules}
use Rattle.qs_played.proofs.Names.{filter-append, AllByRecursion, AllZip, State, replay, without_tickets, IsHonest, entries_of, command_event, part, HasEntry, before, Entry, Ticket, Request, AllByRecursion-get_or, ProgramShape, blocks_of, IsLegal, declared_states, serial, IsSound, each_map, zip_at, Among, Flow, InTurn, ObjectCourse, NoQuery, OnlyCommands, PartIs, Through, IsTicketByTicket, parts_of, ticket_by_ticket, Begins, IsDone, IsBlockRecord, BlockRecord, Agrees, legal_apart, line, runs_serially, ended_of, journal_of, state_of, ticket_at, trace_of, ticket, Played}
use Rattle.qs_played.specs.Isolation.{IsFitting, IsIsolated, IsIsolatedObject, IsIsolatedBlock, IsWhole, entry_of, no_block, serial_block, queries_of}
use Rattle.qs_played.proofs.Orders.{among_once}

-- where a later ticket has an entry, an earlier one is through
turns_at : (x : ObjectCourse) (j : List Entry) (ts : List Ticket) (i k : ℕ) (d : Ticket) → InTurn x j ts → i < k → k < length ts → HasEntry (get_or ts k d) j → Through x (get_or ts i d)
turns_at x j [] i k d turns less inside h = absurd (omega (arith, inside))
turns_at x j (t ∷ ts) i zero d turns less inside h = absurd (omega (arith, less))
turns_at x j (t ∷ ts) zero (suc k) d turns less inside h = turns.0 (get_or ts k d) (among_at ts k (omega (arith, inside))) h
  where
    among_at : (ts : List Ticket) (k : ℕ) → k < length ts → Among (get_or ts k d) ts
    among_at [] k inside = absurd (omega (arith, inside))
    among_at (u ∷ us) zero inside = inl refl
    among_at (u ∷ us) (suc k) inside = inr (among_at us k (omega (arith, inside)))
turns_at x j (t ∷ ts) (suc i) (suc k) d turns less inside h = turns_at x j ts i k d turns.1 (omega (arith, less)) (omega (arith, inside)) h

commands_have_no_reply : (ws : List Request) → AllByRecursion NoQuery ws → queries_of (map command_event ws) ≡ []
commands_have_no_reply [] n = refl
commands_have_no_reply (r ∷ ws) n = rw n.0 (commands_have_no_reply ws n.1)

-- The abstract run behind what is shown. An object is busy while a reservation on it is still being served.
pub record IsRun (p : ProgramShape) (sound : IsSound p) (r : Played) (block_record : Ticket → BlockRecord) (waits : ℕ → Ticket → List Request) (state : ℕ → State) (busy : ℕ → Type 0) (journal : ℕ → List Entry) : Type 0 where
  -- what is shown is as long as the order and the program
  pub fits : IsFitting p r
  -- the order is legal, each block record is one of its ticket's block, begins where the client's block before it has
  -- ended, and flows
  pub legal : IsLegal p r.order
  pub block_records : AllByRecursion (λ t. IsBlockRecord p t (block_record t)) r.order
  pub begins : AllByRecursion (λ t. Begins block_record t.client t.index (block_record t).entry) r.order
  pub flows : (h : ℕ) → Flow (line p sound block_record waits state busy journal h) (declared_states p h) (journal h) r.order
  pub honest : (h : ℕ) → h < length p.objects → IsHonest (declared_states p h) (without_tickets (journal h))
  pub replayed : (h : ℕ) → h < length p.objects → replay (declared_states p h) (without_tickets (journal h)) ≡ state h
  -- what is shown of each reservation and of each object
  pub entry : (i : ℕ) → i < length r.order → entry_of r i ≡ (block_record (ticket_at r i)).entry
  pub trace : (i : ℕ) → i < length r.order → trace_of r i ≡ (block_record (ticket_at r i)).trace
  pub ended : (i : ℕ) → i < length r.order → ended_of r i ≡ true → IsDone (block_record (ticket_at r i)).rest
  pub journals : (h : ℕ) → h < length p.objects → journal_of r h ≡ journal h
  pub written : (h : ℕ) (t : Ticket) → HasEntry t (journal_of r h) → journal_of r h ≡ journal h
  pub states : (h : ℕ) → h < length p.objects → state_of r h ≡ state h
  -- a finished run has reserved every block, and no object is busy
  pub all : r.finished ≡ true → (t : Ticket) → t.index < blocks_of p t.client → Among t r.order
  pub idle : r.finished ≡ true → (h : ℕ) → h < length p.objects → busy h → ⊥

module _ (p : ProgramShape) (sound : IsSound p) (r : Played) (block_record : Ticket → BlockRecord) (waits : ℕ → Ticket → List Request) (state : ℕ → State) (busy : ℕ → Type 0) (journal : ℕ → List Entry)
    (run : IsRun p sound r block_record waits state busy journal) where
  abbrev x : ℕ → ObjectCourse
  x = line p sound block_record waits state busy journal

  serially : AllZip (Agrees p journal block_record) r.order (serial p r.order).places × ((h : ℕ) → (busy h → ⊥) → (serial p r.order).states h ≡ state h)
  serially = runs_serially p sound block_record waits state busy journal r.order run.legal run.block_records run.begins run.flows

  ticket_by_ticket_at : (h : ℕ) → IsTicketByTicket (x h) (journal h) r.order
  ticket_by_ticket_at h = ticket_by_ticket (x h) (declared_states p h) (journal h) r.order (legal_apart p (λ _. 0) r.order run.legal) (run.flows h)

  module _ (i : ℕ) (inside : i < length r.order) where
    abbrev t : Ticket
    t = ticket_at r i

    agrees : Agrees p journal block_record t (serial_block p r i)
    agrees = zip_at (Agrees p journal block_record) r.order (serial p r.order).places i (ticket 0 0) no_block serially.0 inside

    starts : (h : ℕ) → HasEntry t (journal_of r h) → replay (declared_states p h) (without_tickets (before t (journal_of r h))) ≡ (serial_block p r i).starts h
    starts h has =
        let is = run.written h t has in
        ap (λ j. replay (declared_states p h) (without_tickets (before t j))) is ∙ agrees.starts h (subst (HasEntry t) is has)

    is_place : IsIsolatedBlock p r i
    is_place = record {
      entry = run.entry i inside ∙ agrees.entry;
      front = (agrees.front.0, ap (λ es. es ++ agrees.front.0) (run.trace i inside) ∙ agrees.front.1);
      whole = λ e. run.trace i inside ∙ agrees.whole (run.ended i inside e);
      starts = starts;
    }

    part_is : (h : ℕ) → PartIs (x h) (journal h) t
    part_is h = AllByRecursion-get_or (PartIs (x h) (journal h)) r.order i (ticket 0 0) (ticket_by_ticket_at h).parts inside

    module _ (h : ℕ) (own : h < length p.objects) where
      shown_part : part h (trace_of r i) ≡ without_tickets (entries_of t (journal_of r h)) ++ map command_event (waits h t)
      shown_part = search (rules, run, part_is, t, map)

      shown_queries : AllByRecursion NoQuery (waits h t) → queries_of (part h (trace_of r i)) ≡ queries_of (without_tickets (entries_of t (journal_of r h)))
      shown_queries commands = search (rules, shown_part, filter-append, t, map, commands_have_no_reply, append-nil)

      -- where a later reservation has an entry
      through : (m : ℕ) → i < m → m < length r.order → HasEntry (ticket_at r m) (journal_of r h) → without_tickets (entries_of t (journal_of r h)) ≡ part h (serial_block p r i).trace
      through m less long has =
          let over = turns_at (x h) (journal h) r.order i m (ticket 0 0) (ticket_by_ticket_at h).turns less long (subst (HasEntry (ticket_at r m)) (run.journals h own) has) in
          let whole : parts_of block_record h t ≡ without_tickets (entries_of t (journal h)) =
          part_is h ∙ (ap (λ ws. without_tickets (entries_of t (journal h)) ++ map command_event ws) over.1 ∙ append-nil (without_tickets (entries_of t (journal h)))) in
          ap (λ j. without_tickets (entries_of t j)) (run.journals h own) ∙ (sym whole ∙ sym (agrees.through h over.0))

  -- what is on the way are commands
  waiting_commands : (h : ℕ) (j : List Entry) (o : State) (ts : List Ticket) → Flow (x h) o j ts → AllByRecursion (λ t. AllByRecursion NoQuery (waits h t)) ts
  waiting_commands h j o [] f = tt
  waiting_commands h j o (t ∷ ts) (q, inl f) = (q.commands, waiting_commands h q.later (replay o q.ran) ts f.2)
  waiting_commands h j o (t ∷ ts) (q, inr f) = (q.commands, each_map (λ u (c : OnlyCommands (parts_of block_record h u) (waits h u)). c.1) ts f.2)

  is_line : (h : ℕ) → h < length p.objects → IsIsolatedObject p r waits h
  is_line h own = record {
    honest = subst (λ j. IsHonest (declared_states p h) (without_tickets j)) (sym (run.journals h own)) (run.honest h own);
    replayed = ap (λ j. replay (declared_states p h) (without_tickets j)) (run.journals h own) ∙ (run.replayed h own ∙ sym (run.states h own));
    order = subst (λ j. j ≡ flat_map (λ t. entries_of t j) r.order) (sym (run.journals h own)) (ticket_by_ticket_at h).order;
    turns = λ i m less long has. through i (omega (arith, less, long)) h own m less long has;
    parts = λ i inside. shown_part i inside h own;
    queries = λ i inside.
        shown_queries i inside h own
        (AllByRecursion-get_or (λ t. AllByRecursion NoQuery (waits h t)) r.order i (ticket 0 0) (waiting_commands h (journal h) (declared_states p h) r.order (run.flows h)) inside);
  }

  is_whole : r.finished ≡ true → IsWhole p r
  is_whole e = record {
    once = λ u some. among_once u r.order (legal_apart p (λ _. 0) r.order run.legal) (run.all e u some);
    states = λ h own. run.states h own ∙ sym (serially.1 h (run.idle e h own));
  }

  -- what an abstract run shows is isolated
  pub run_isolated : IsIsolated p r waits
  unfolding IsIsolated
  run_isolated = search (rules, run, is_place, is_line, is_whole)
