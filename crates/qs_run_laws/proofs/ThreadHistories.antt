-- What each client and each handler of a run did: a client one block after another, a handler one turn after another.
-- The laws on one client and on one handler say so from the deeds and the tasks alone. Beyond the clients and objects
-- of the program nobody does anything, so that the later lemmas need not ask whether a number is one of them.
use Rattle.std.proofs.Common.{◌≡◌, ◌<◌, ◌≤◌, arith, ℕ, Bool, true, false, if◌then◌else◌, nat_lt, List, [], ◌∷◌, ◌++◌, map, length, refl, sym, ap, ap₂, ◌∙◌, subst, rules}
use Rattle.qs_played.proofs.Names.{AllByRecursion, HeldState, Ticket, ProgramShape, blocks_of, IsSound, Locals, reserves, block_tree, blocks_ask_only, IsAsking, ticket, fresh_held}
use Rattle.qs_objects.specs.declared.held.Next.TheVariants as nexts
use Rattle.qs_core_laws.proofs.Names.{without_syncs, BlockCode, ClientCode, code_at, AreCodes, IsSoundSynced, IsOnReserved, Mode, code_asks, longest, free, closed, Task, takes, TasksLead, taken_by, Deed, RunsTo, ClientModel, finish, fresh_mind, hands_out, next_act, next_mind, tree_at, no_block_beyond, reserved_inside, legal_blocks, ClientHistory, longest_covers}
use Rattle.qs_client.specs.declared.rules.act.Act.TheVariants as acts
use Rattle.qs_run_laws.proofs.Names.{HasTurns, Turn, of_handler, IsThreadRun, ThreadRun}
use Rattle.qs_handler.proofs.RunTurns.{handlers_take_turns}
use Rattle.qs_core_laws.proofs.protocol.ClientInvariants.{objects_of_block}
use Rattle.qs_core_laws.proofs.protocol.ClientHistories.{client_history}
use Rattle.qs_core_laws.proofs.protocol.HistoryCounts.{HistoryCounts, history_counts, in_counts}
use Rattle.qs_core_laws.proofs.protocol.ReservedLists.{lined}
use Rattle.qs_core_laws.proofs.protocol.ProgramTrees.{block_walk, blocks_are, reserved_is}

-- the tickets of turns, by what was taken up to the closing mark
turned_tickets : (us : List Turn) (ts : List Ticket)
    → map (λ (u : Turn). nexts.Ticket u.ticket) us ++ nexts.Closed ∷ [] ≡ map nexts.Ticket ts ++ nexts.Closed ∷ [] → map (λ (u : Turn). u.ticket) us ≡ ts
turned_tickets [] [] e = refl
turned_tickets (u ∷ us) (t ∷ ts) e =
    let here : u.ticket ≡ t = cc in
    let more : map (λ (u : Turn). nexts.Ticket u.ticket) us ++ nexts.Closed ∷ [] ≡ map nexts.Ticket ts ++ nexts.Closed ∷ [] = cc in
    ap₂ (λ (t : Ticket) ts. t ∷ ts) here (turned_tickets us ts more)
turned_tickets _ _ e = absurd (cc)

-- no block reserves what is no object
none_reserve : (p : ProgramShape) → IsSound p → (h : ℕ) → length p.objects ≤ h → (ts : List Ticket) → of_handler p h ts ≡ []
none_reserve p sound h out [] = refl
none_reserve p sound h out (t ∷ ts) = grind (arith, reserved_inside, none_reserve p sound h out ts)

module _ (p : ProgramShape) (sound : IsSound p) (mode : Mode) (code : ℕ → ClientCode) (codes : AreCodes p mode code) (size : ℕ) (r : ThreadRun)
    (run : IsThreadRun p code size r) where
  -- what client c did, and came to
  abbrev pub deeds_of : ℕ → List Deed
  deeds_of c = if nat_lt c (length p.clients) then r.deeds c else []

  abbrev pub mind_of : ℕ → ClientModel
  mind_of c = if nat_lt c (length p.clients) then r.mind c else next_mind (fresh_mind (code c) size)

  -- a client without blocks has finished
  idle_act : (c : ℕ) → (code c).blocks ≡ [] → next_act (fresh_mind (code c) size) ≡ acts.Finished
  idle_act c none = subst (λ (bs : List BlockCode). (if nat_lt 0 (length bs) then acts.Reserve else acts.Finished) ≡ acts.Finished) (sym none) refl

  client_runs : (c : ℕ) → RunsTo c (fresh_mind (code c) size) (deeds_of c) (mind_of c)
  client_runs c = by_test (nat_lt c (length p.clients)) refl
    where
      by_test : (b : Bool) → nat_lt c (length p.clients) ≡ b
          → RunsTo c (fresh_mind (code c) size) (if b then r.deeds c else []) (if b then r.mind c else next_mind (fresh_mind (code c) size))
      by_test true e = run.clients c (grind (arith, e))
      by_test false e = record { last = fresh_mind (code c) size; deeds_lead = refl; finished = idle_act c (codes.none c (grind (arith, e))); end_is = refl }

  abbrev pub count_of : ℕ → ℕ
  count_of c = length (code c).blocks

  pub count_is : (c : ℕ) → count_of c ≡ blocks_of p c
  count_is c = blocks_are p sound mode code codes c

  own_list : (c k : ℕ) → k < count_of c → (code_at (code c) k).reserved ≡ objects_of_block p (ticket c k)
  own_list c k few = reserved_is p sound mode code codes (ticket c k)

  own_walk : (c k : ℕ) (l : Locals) → k < count_of c
      → (without_syncs (tree_at (code c) k l) ≡ block_tree p (ticket c k) l) × IsSoundSynced (λ h. false) (tree_at (code c) k l) × IsOnReserved (objects_of_block p (ticket c k)) (tree_at (code c) k l)
  own_walk c k l few = block_walk p sound mode code codes (ticket c k) l (let n = count_is c in omega (arith, few, n))

  own_asks : (c k : ℕ) (l : Locals) → k < count_of c → IsAsking (tree_at (code c) k l)
  own_asks c k l few =
      let n = count_is c in
      let inside : k < blocks_of p c = omega (arith, few, n) in
      let own = no_block_beyond p c (omega (arith, inside)) in
      code_asks p mode c (code c) sound (codes.own c own) k (longest (code c).blocks) l inside (longest_covers (code c).blocks k)

  pub tale : (c : ℕ) → ClientHistory p c (code c) (deeds_of c) (mind_of c)
  tale c = client_history p (blocks_ask_only p sound) (lined p sound) c (code c) size (own_list c) (own_walk c) (deeds_of c) (mind_of c) (client_runs c)

  pub tale_counts : (c : ℕ) → HistoryCounts p c (code c) size (deeds_of c) (mind_of c) (tale c)
  tale_counts c =
      history_counts p (blocks_ask_only p sound) (lined p sound) c (code c) size (own_list c) (own_walk c) (own_asks c) (deeds_of c) (mind_of c) (client_runs c) (tale c)

  -- what handler h did, and its object at the end
  abbrev pub tasks_of : ℕ → List Task
  tasks_of h = if nat_lt h (length p.objects) then r.tasks h else takes nexts.Closed ∷ []

  abbrev pub held_of : ℕ → HeldState
  held_of h = if nat_lt h (length p.objects) then r.held h else fresh_held p h

  handler_runs : (h : ℕ) → TasksLead (free (fresh_held p h)) (tasks_of h) (closed (held_of h))
  handler_runs h = search rules

  pub turned : (h : ℕ) → HasTurns (fresh_held p h) (tasks_of h) (held_of h)
  turned h = handlers_take_turns (fresh_held p h) (held_of h) (tasks_of h) (handler_runs h)

  all_taken : (h : ℕ) → taken_by (tasks_of h) ≡ map nexts.Ticket (of_handler p h r.order) ++ nexts.Closed ∷ []
  all_taken h = search (rules, none_reserve)

  -- each handler served the tickets of the order that reserve it, in that order
  pub turns_are : (h : ℕ) → map (λ (u : Turn). u.ticket) (turned h).turns ≡ of_handler p h r.order
  turns_are h = turned_tickets (turned h).turns (of_handler p h r.order) (sym (turned h).taken ∙ all_taken h)

  pub inside : AllByRecursion (λ (t : Ticket). t.index < blocks_of p t.client) r.order
  inside = legal_blocks p (λ _. 0) r.order run.legal

  pub block_begun : (t : Ticket) → t.index < blocks_of p t.client → t.index < count_of t.client
  block_begun t few = let n = count_is t.client in omega (arith, few, n)

  -- a client's mind ends with a row for each of its blocks
  pub rows_end : (c : ℕ) → (length (mind_of c).entries ≡ count_of c) × (length (mind_of c).traces ≡ count_of c) × (length (mind_of c).counts ≡ count_of c)
  rows_end c =
      let run = client_runs c in
      let both = in_counts p (blocks_ask_only p sound) (lined p sound) c (code c) size (own_list c) (own_walk c) (own_asks c) (deeds_of c) run.last run.deeds_lead in
      let is : mind_of c ≡ hands_out (finish run.last) acts.Finished = run.end_is ∙ ap (hands_out (finish run.last)) run.finished in (
        ap (λ (m : ClientModel). length m.entries) is ∙ (both.0.entry_count ∙ (sym (ap (λ (m : ClientModel). m.client.begun) is) ∙ (tale c).begun)),
        ap (λ (m : ClientModel). length m.traces) is ∙ both.0.trace_count,
        ap (λ (m : ClientModel). length m.counts) is ∙ both.1.row_count,
      )
