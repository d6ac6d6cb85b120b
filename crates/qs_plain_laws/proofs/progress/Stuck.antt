-- A run by the plain rules is never stuck. The tickets of the order are gone through from the first on, as long as each
-- was served at all of its handlers. The first that is left at some handler is the first in that handler's line. If its
-- private queue has an item, the handler has a step. If it has none, the client is in the ticket's block, and has a
-- step there; or it waits for a query, and the query lies first at the handler that was asked, where all earlier
-- tickets were served too. With no ticket left, nobody waits, so a client with a block left has a step.
use Rattle.std.proofs.Common.{◌≡◌, ◌<◌, ◌≤◌, ◌∙◌, ◌==◌, ◌⊎◌, ◌+◌, inl, inr, ⊎_elim, ℕ, zero, suc, Bool, true, false, if◌then◌else◌, nat_lt, ℤ, List, [], ◌∷◌, ◌++◌, None, IsSome, map, length, get_or, refl, sym, ap, subst, arith, rules}
use Rattle.qs_played.proofs.Names.{lt-ltb, Ticket, Request, eqb_self, num_cases, ProgramShape, blocks_of, text_of, IsSound, Locals, IsDone, reserves, Interaction, Query, LegalFrom, put, Among, done_of, ticket, names_actor}
use Rattle.qs_played.specs.declared.schedule.actor.Actor.TheVariants as actor
use Rattle.qs_plain_laws.proofs.Names.{each_among, legal_among, no_block_beyond, all_done, all_idle, is_done, is_finished, plays, QueueItem}
use Rattle.qs_plain_laws.specs.audit.Plain.{Client, Handler, Plain, Private, StageOfClient, begin, begun_blocks, client_at, client_step, handler_at, item_step, no_client, out, queue_step, within}
use Rattle.qs_plain_laws.specs.declared.item.QueueItem.TheVariants as item
use Rattle.qs_plain_laws.proofs.PlainPreserved.{RunInvariant, in_list, reserved_list, run_kept, sight_of}
use Rattle.qs_plain_laws.proofs.RunViews.{Awaits, PlainStage, RunView, Runs, Stands, stage_of}
use Rattle.qs_plain_laws.proofs.ServedRuns.{IsServedRun, ServedRun}
use Rattle.qs_plain_laws.proofs.ServedRunMoves.{asks_left}
use Rattle.qs_plain_laws.proofs.Simulation.{Simulates, private, tail}
use Rattle.qs_plain_laws.specs.progress.Progress.{CanGoOn, NeverStuck}
use Rattle.qs_plain_laws.proofs.progress.FirstLeft.{IsFirstLeft, all_over, goes_or_none}

-- a handler whose first private queue has an item has a step
item_steps : (s : Plain) (h : ℕ) (it : Handler) (q : Private) (qs : List Private) (i : QueueItem) (is : List QueueItem)
    → IsSome (item_step s h it q qs (i ∷ is))
item_steps s h it q qs v is = search rules

-- all clients done, or somebody has a step
each_done : (p : ProgramShape) (H : Type 0) (cs : List Client) (from : ℕ)
    → ((i : ℕ) → i < length cs → (is_done p (i + from) (get_or cs i no_client) ≡ true) ⊎ H)
    → (all_done p from cs ≡ true) ⊎ H
each_done p H [] from each = inl refl
each_done p H (it ∷ cs) from each =
    elim (each 0 (omega arith)) [
      | inl first ↦
          elim (each_done p H cs (suc from) (λ i less.
          let same : suc i + from ≡ i + suc from = omega arith in
          subst (λ c. (is_done p c (get_or cs i no_client) ≡ true) ⊎ H) same (each (suc i) (omega (arith, less))))) [
            | inl rest ↦
                let none : 0 + from ≡ from = omega arith in
                inl (rw (subst (λ c. is_done p c it ≡ true) none first) rest)
            | inr some ↦ inr some
          ]
      | inr some ↦ inr some
    ]

all_are_idle : (hs : List Handler) → ((g : ℕ) → (handler_at hs g).queues ≡ []) → all_idle hs ≡ true
all_are_idle [] none = refl
all_are_idle (h ∷ hs) none = rw (none 0) (all_are_idle hs (λ g. none (suc g)))

module _ (p : ProgramShape) (sound : IsSound p) (s : Plain) (k : RunInvariant p sound s) where
  abbrev w : ServedRun
  w = k.kept.0

  abbrev ok : IsServedRun p w
  ok = k.kept.1

  abbrev v : RunView
  v = sight_of s k.stance

  abbrev sim : Simulates v w
  sim = k.kept.2

  -- the tickets that are left at an object, and whether one is over
  abbrev line : ℕ → List Ticket
  line h = (w.service h).queue

  abbrev IsOver : ℕ → Ticket → Type 0
  IsOver h t = done_of w.block_record t

  inside : (t : Ticket) (h : ℕ) → reserves p t h ≡ true → h < length p.objects
  inside t h e = in_list p (text_of p t).reserved h (reserved_list p sound t).within e

  handler_named : (t : Ticket) (h : ℕ) → reserves p t h ≡ true → names_actor p (actor.Handler h) ≡ true
  handler_named t h e = lt-ltb h (length p.objects) (inside t h e)

  -- a ticket of the order is of a client of the program, and its block is one of the client's
  legal_within : (b : ℕ → ℕ) (ts : List Ticket) (t : Ticket) → LegalFrom p b ts → Among t ts
      → t.index < blocks_of p t.client
  legal_within b [] t legal a = absurd a
  legal_within b (u ∷ us) t legal (inl is) = subst (λ (x : Ticket). x.index < blocks_of p x.client) (sym is) legal.1
  legal_within b (u ∷ us) t legal (inr a) = legal_within (put b u.client (suc u.index)) us t legal.2 a

  is_client : (t : Ticket) → Among t w.order → t.client < length p.clients
  is_client t a = no_block_beyond p t.client (let l = legal_within (λ _. 0) w.order t ok.legal a in omega (arith, l))

  -- the ticket of a client's last block is in the order
  last_among : (c i : ℕ) → begun_blocks (client_at s c) ≡ suc i → Among (ticket c i) w.order
  last_among c i e = grind (arith, legal_among)

  begun_within : (c n : ℕ) → begun_blocks (client_at s c) ≡ n → n ≤ blocks_of p c
  begun_within c zero e = omega arith
  begun_within c (suc i) e = legal_within (λ _. 0) w.order (ticket c i) ok.legal (last_among c i e)

  -- a query that a client waits for is one of its block's list
  waits_at : (t : Ticket) (r : Request) (next : ℤ → Interaction) → Among t w.order → (w.block_record t).rest ≡ Query r next
      → reserves p t r.object ≡ true
  waits_at t r next a e = search (rules, asks_left, w, each_among)

  waits_still : (t : Ticket) (r : Request) (next : ℤ → Interaction) → suc t.index ≡ begun_blocks (client_at s t.client)
      → k.stance t.client ≡ Awaits r next
      → (w.block_record t).rest ≡ Query r next
  waits_still t r next last is = search (rules, k)

  not_over : (t : Ticket) (r : Request) (next : ℤ → Interaction) → (w.block_record t).rest ≡ Query r next → done_of w.block_record t → ⊥
  not_over t r next e d = subst IsDone e d

  -- what lies in a private queue
  abbrev items : ℕ → Ticket → List QueueItem
  items g t = map item.Command ((w.service g).wait t) ++ tail v.client g t

  queue_is : (t : Ticket) (us : List Ticket) (g : ℕ) → (w.service g).queue ≡ t ∷ us
      → (handler_at s.handlers g).queues ≡ map (private v.client g (w.service g).wait) (t ∷ us)
  queue_is t us g e = sim.queues g ∙ ap (map (private v.client g (w.service g).wait)) e

  -- a handler steps whose first private queue is not empty
  handler_steps : (t : Ticket) (us : List Ticket) (g : ℕ) → reserves p t g ≡ true → (w.service g).queue ≡ t ∷ us
      → (i : QueueItem) × (is : List QueueItem) × (items g t ≡ i ∷ is) → CanGoOn p s
  handler_steps t us g e q (i, is, x) =
      let it = handler_at s.handlers g in
      let first = private v.client g (w.service g).wait t in
      let others = map (private v.client g (w.service g).wait) us in (
        actor.Handler g,
        handler_named t g e,
        subst (λ qs. IsSome (queue_step s g it qs)) (sym (queue_is t us g q))
            (subst (λ its. IsSome (item_step s g it first others its)) (sym x) (item_steps s g it first others i is)),
      )

  some_item : (rs : List Request) (tl : List QueueItem) (i : QueueItem) → tl ≡ i ∷ []
      → (j : QueueItem) × (js : List QueueItem) × (map item.Command rs ++ tl ≡ j ∷ js)
  some_item [] tl i e = (i, [], e)
  some_item (r ∷ rs) tl i e = (item.Command r, map item.Command rs ++ tl, refl)

  client_there : (c : ℕ) → c < length p.clients → nat_lt c (length s.clients) ≡ true
  client_there c less = lt-ltb c (length s.clients) (let long = k.clients in omega (arith, less, long))

  -- a client steps whose stage has a step
  client_steps : (c : ℕ) (g : StageOfClient) → c < length p.clients → (client_at s c).stage ≡ g
      → IsSome (client_step p s c (client_at s c) g) → CanGoOn p s
  client_steps c g less e some = (
    actor.Client c,
    lt-ltb c (length p.clients) less,
    subst (λ b. IsSome (if b then client_step p s c (client_at s c) (client_at s c).stage else None))
        (sym (client_there c less))
        (subst (λ g. IsSome (client_step p s c (client_at s c) g)) (sym e) some),
  )

  in_block_steps : (c : ℕ) (rest : Interaction) → c < length p.clients → k.stance c ≡ Runs rest → CanGoOn p s
  in_block_steps c rest less e = client_steps c (within rest) less (k.stages c less ∙ ap stage_of e) refl

  -- a ticket that is the first one left of all
  module _ (t : Ticket) (among : Among t w.order) (left : IsFirstLeft p line IsOver t) where
    -- where its client waits, the query lies first
    asked_steps : (r : Request) (next : ℤ → Interaction) → suc t.index ≡ begun_blocks (client_at s t.client)
        → k.stance t.client ≡ Awaits r next → CanGoOn p s
    asked_steps r next last is =
        let rest = waits_still t r next last is in
        let mine = waits_at t r next among rest in
        elim (left r.object mine) [
          | inl first ↦
              handler_steps t first.0 r.object mine first.1
              (some_item ((w.service r.object).wait t) (tail v.client r.object t) (item.Query r) query_lies)
          | inr over ↦ absurd (not_over t r next rest over)
        ]
      where
        query_lies : tail v.client r.object t ≡ item.Query r ∷ []
        query_lies = rw (← last, is) (rw (eqb_self (suc t.index)) (rw (eqb_self r.object) refl))

    -- first at an object
    module _ (h : ℕ) (us : List Ticket) (mine : reserves p t h ≡ true) (first : (w.service h).queue ≡ t ∷ us) where
      mark_steps : tail v.client h t ≡ item.EndMark ∷ [] → CanGoOn p s
      mark_steps e =
          handler_steps t us h mine first (some_item ((w.service h).wait t) (tail v.client h t) item.EndMark e)

      by_stance : (g : PlainStage) → k.stance t.client ≡ g → suc t.index ≡ begun_blocks (client_at s t.client)
          → CanGoOn p s
      by_stance v is last = search (rules, mark_steps, eqb_self, in_block_steps, is_client, asked_steps)

      first_steps : CanGoOn p s
      first_steps = ⊎_elim
          (λ (last : suc t.index ≡ begun_blocks (client_at s t.client)). by_stance (k.stance t.client) refl last)
          (λ (older : (suc t.index == begun_blocks (client_at s t.client)) ≡ false). mark_steps (rw older refl))
          (num_cases (suc t.index) (begun_blocks (client_at s t.client)))

  served_all : (h : ℕ) (t : Ticket) → line h ≡ [] → Among t w.order → reserves p t h ≡ true → done_of w.block_record t
  served_all h t none a mine =
      all_over p line IsOver w.order (λ h. (w.service h).past)
      (λ h. (ok.services h).over) (λ h. (ok.services h).mine) h t none a mine

  -- where no ticket is left a client is done or has a step
  module _ (none : (h : ℕ) → (w.service h).queue ≡ []) where
    waits_for_none : (c : ℕ) (r : Request) (next : ℤ → Interaction) (n : ℕ) → begun_blocks (client_at s c) ≡ n
        → k.stance c ≡ Awaits r next → ⊥
    waits_for_none c r next zero e is = search rules
    waits_for_none c r next (suc i) e is =
        let t = ticket c i in
        let among = last_among c i e in
        let rest = waits_still t r next (sym e) is in
        not_over t r next rest (served_all r.object t (none r.object) among (waits_at t r next among rest))

    fate : (c : ℕ) → c < length p.clients → (is_done p c (client_at s c) ≡ true) ⊎ CanGoOn p s
    fate c less = by_stance (k.stance c) refl
      where
        out_there : (l : Locals) → k.stance c ≡ Stands l → (client_at s c).stage ≡ out l
        out_there l is = k.stages c less ∙ ap stage_of is

        by_number : (l : Locals) → k.stance c ≡ Stands l → (b : Bool)
            → nat_lt (begun_blocks (client_at s c)) (blocks_of p c) ≡ b
            → (is_done p c (client_at s c) ≡ true) ⊎ CanGoOn p s
        by_number l is true e = inr (client_steps c (out l) less (out_there l is) (rw e refl))
        by_number l is false e =
            let most = begun_within c (begun_blocks (client_at s c)) refl in
            let all : begun_blocks (client_at s c) ≡ blocks_of p c = grind (arith, e, most) in
            inl (rw (out_there l is, all) (eqb_self (blocks_of p c)))

        by_stance : (g : PlainStage) → k.stance c ≡ g → (is_done p c (client_at s c) ≡ true) ⊎ CanGoOn p s
        by_stance (Stands l) is = by_number l is (nat_lt (begun_blocks (client_at s c)) (blocks_of p c)) refl
        by_stance (Runs rest) is = inr (in_block_steps c rest less is)
        by_stance (Awaits r next) is = absurd (waits_for_none c r next (begun_blocks (client_at s c)) refl is)

    idle : all_idle s.handlers ≡ true
    idle = all_are_idle s.handlers (λ h. sim.queues h ∙ ap (map (private v.client h (w.service h).wait)) (none h))

    last_case : (is_finished p s ≡ true) ⊎ CanGoOn p s
    last_case =
        elim (each_done p (CanGoOn p s) s.clients 0 fates) [ inl all ↦ inl (rw (all, idle) refl) | inr some ↦ inr some ]
      where
        fates : (i : ℕ) → i < length s.clients → (is_done p (i + 0) (client_at s i) ≡ true) ⊎ CanGoOn p s
        fates i less =
            let same : i ≡ i + 0 = omega arith in
            let inside : i < length p.clients = (let long = k.clients in omega (arith, less, long)) in
            subst (λ c. (is_done p c (client_at s i) ≡ true) ⊎ CanGoOn p s) same (fate i inside)

  pub goes_on : (is_finished p s ≡ true) ⊎ CanGoOn p s
  goes_on =
      elim (goes_or_none p line IsOver w.order (λ h. (w.service h).past)
      (λ h. (ok.services h).over) (λ h. (ok.services h).mine) (CanGoOn p s) first_steps) [
        | inl some ↦ inr some
        | inr none ↦ last_case none
      ]

pub runs_never_stuck : NeverStuck
runs_never_stuck p sound actors = goes_on p sound (plays p actors (begin p)) (run_kept p sound actors)
