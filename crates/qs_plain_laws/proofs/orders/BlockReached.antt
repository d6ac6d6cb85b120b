-- Each legal order of blocks is reached under the plain rules: one block after another, each alone. Where nobody is in
-- a block, the next ticket's client reserves, and has its block alone until it is over. So it goes by induction on the
-- order, with the configuration that counts the blocks that each client has begun. At the end each block has ended;
-- where nobody has a block left, the run is finished.
use Rattle.std.proofs.Common.{◌≡◌, ◌<◌, ◌≤◌, ◌∙◌, ◌+◌, ◌==◌, ℕ, suc, Bool, true, false, if◌then◌else◌, List, [], ◌∷◌, ◌++◌, Some, map, refl, sym, ap, subst, length, get_or, get_or-set_same, get_or-set_other, length-set, append_assoc, append-nil, ⊎_elim, arith, rules}
use Rattle.qs_played.proofs.Names.{set, lt-ltb, get_or_past, length-append, get_or-map-range_with_len, length-map-range_with_len, AllByRecursion, Ticket, eqb_self, num_cases, ticket_path, ProgramShape, blocks_of, text_of, IsSound, Locals, Configuration, IsComplete, configuration_after, configuration_from, first_configuration, one_block_on, reserves, block_tree, IsLegal, LegalFrom, put, complete_orders_leave_none, legal_on, blocks_ask_only, put_here, put_there, all_named, or_stay}
use Rattle.qs_played.specs.declared.schedule.actor.Actor.{Actor}
use Rattle.qs_played.specs.Isolation.{IsIsolated}
use Rattle.qs_played.specs.declared.schedule.actor.Actor.TheVariants as actor
use Rattle.qs_plain_laws.proofs.Names.{apart, commands_in_queue, all_done, all_idle, ended_at, is_done, is_finished, is_out, played_of, plays, IsPlayedInOrder, OrdersArePlayed, IsOut, IsQuiet}
use Rattle.qs_plain_laws.specs.audit.Plain.{Client, Handler, Plain, Private, StageOfClient, at_each, begin, begins, begun_blocks, client_at, enter, handler_at, no_client, out, step, within}
use Rattle.qs_plain_laws.specs.PlainSyncSums.{AreQueriesCounted}
use Rattle.qs_plain_laws.proofs.Isolating.{runs_isolated}
use Rattle.qs_plain_laws.proofs.PlainSyncs.{plain_syncs_counted}
use Rattle.qs_plain_laws.specs.PlainSchedule.{scheduled}
use Rattle.qs_plain_laws.proofs.PlainPreserved.{each_is, reserved_list}
use Rattle.qs_plain_laws.proofs.orders.BlockAlone.{block_over, each_long}
use Rattle.qs_plain_laws.proofs.orders.AloneSteps.{IsAlone, IsWithin, Reaches, left_of, move, onward, stay}

-- a client with blocks is one of the program's
pub has_client : (p : ProgramShape) (t : Ticket) → t.index < blocks_of p t.client → t.client < length p.clients
has_client p t less = search (rules, get_or_past)

variables_of : (g : StageOfClient) → IsOut g → (l : Locals) × (g ≡ out l)
variables_of v is = search rules

module _ (p : ProgramShape) (sound : IsSound p) (order : List Ticket) (blocks : ℕ → ℕ) (t : Ticket)
    (index : t.index ≡ blocks t.client) (left : t.index < blocks_of p t.client) where
  abbrev begun : ℕ → ℕ
  begun = put blocks t.client (suc (blocks t.client))

  abbrev entered : Plain → Locals → Plain
  entered s l = record {
    order = s.order ++ t ∷ [];
    clients = set s.clients t.client (begins (client_at s t.client) l (block_tree p t l) (text_of p t).reserved);
    handlers = at_each (enter t) s.handlers (text_of p t).reserved;
  }

  abbrev served : ℕ → List Private
  served h = if reserves p t h then record { ticket = t; items = [] } ∷ [] else []

  client : t.client < length p.clients
  client = has_client p t left

  now_begun : begun t.client ≡ suc t.index
  now_begun = put_here blocks t.client (suc (blocks t.client)) ∙ ap suc (sym index)

  -- the step in which the client reserves
  enters : (s : Plain) (l : Locals) → IsQuiet p order blocks s → (client_at s t.client).stage ≡ out l → step p s (actor.Client t.client) ≡ Some (entered s l)
  enters s l now stage = search (rules, lt-ltb, client, ticket_path, set)

  entered_at : (s : Plain) (l : Locals) → IsQuiet p order blocks s → (client_at s t.client).stage ≡ out l
      → IsAlone p (order ++ t ∷ []) begun t served (within (block_tree p t l)) (entered s l)
  entered_at s l now stage = record {
    order = ap (λ o. o ++ t ∷ []) now.order;
    clients = length-set s.clients t.client _ ∙ now.clients;
    handlers = each_long (enter t) s.handlers (text_of p t).reserved ∙ now.handlers;
    stage = ap (λ (x : Client). x.stage) here;
    begun = λ c. ⊎_elim
        (λ (is : t.client ≡ c).
        subst (λ c. begun_blocks (get_or (set s.clients t.client me) c no_client) ≡ begun c) is
        (ap begun_blocks here ∙ (longer ∙ sym (put_here blocks t.client (suc (blocks t.client))))))
        (λ (other : (t.client == c) ≡ false).
        ap begun_blocks (there c other) ∙ (now.begun c ∙ sym (put_there blocks t.client (suc (blocks t.client)) c other)))
        (num_cases t.client c);
    others = λ c other. subst (λ (x : Client). IsOut x.stage) (sym (there c other)) (now.stages c);
    queues = λ g. ap (λ (x : Handler). x.queues) (each_is (enter t) s.handlers (text_of p t).reserved g
        (subst (λ m. AllByRecursion (λ h. h < m) (text_of p t).reserved) (sym now.handlers) (reserved_list p sound t).within) (reserved_list p sound t).distinct)
        ∙ by_test g (now.queues g) (reserves p t g);
  }
    where
      me : Client
      me = begins (client_at s t.client) l (block_tree p t l) (text_of p t).reserved

      here : get_or (set s.clients t.client (begins (client_at s t.client) l (block_tree p t l) (text_of p t).reserved)) t.client no_client
          ≡ begins (client_at s t.client) l (block_tree p t l) (text_of p t).reserved
      here = get_or-set_same s.clients t.client _ no_client (let long = now.clients in let c = client in omega (arith, c, long))

      there : (c : ℕ) → (t.client == c) ≡ false
          → get_or (set s.clients t.client (begins (client_at s t.client) l (block_tree p t l) (text_of p t).reserved)) c no_client ≡ client_at s c
      there c other = get_or-set_other s.clients t.client c _ no_client (apart t.client c other)

      longer : length ((client_at s t.client).entries ++ l ∷ []) ≡ suc (blocks t.client)
      longer = let more = length-append (client_at s t.client).entries (l ∷ []) in let b = now.begun t.client in omega (arith, more, b)

      by_test : (g : ℕ) → (handler_at s.handlers g).queues ≡ [] → (b : Bool)
          → (if b then enter t (handler_at s.handlers g) else handler_at s.handlers g).queues ≡ (if b then record { ticket = t; items = [] } ∷ [] else [])
      by_test g none v = search rules

  -- in one step the client comes into its block
  pub comes_in : (s : Plain) → IsQuiet p order blocks s → IsWithin p (order ++ t ∷ []) begun t (or_stay s (step p s (actor.Client t.client)))
  comes_in s now =
      let had = variables_of (client_at s t.client).stage (now.stages t.client) in
      subst (λ o. IsWithin p (order ++ t ∷ []) begun t (or_stay s o)) (sym (enters s had.0 now had.1))
      (block_tree p t had.0, blocks_ask_only p sound t had.0, entered_at s had.0 now had.1)

  pub block_reached : (s : Plain) → IsQuiet p order blocks s → Reaches p s (IsQuiet p (order ++ t ∷ []) begun)
  block_reached s now =
      let had = variables_of (client_at s t.client).stage (now.stages t.client) in
      let l = had.0 in
      move p s (actor.Client t.client) (entered s l) (IsQuiet p (order ++ t ∷ []) begun) (lt-ltb t.client (length p.clients) client) (enters s l now had.1)
      (block_over p sound (order ++ t ∷ []) begun t client now_begun (left_of t (entered s l)) (entered s l) (omega arith)
      (block_tree p t l, blocks_ask_only p sound t l, entered_at s l now had.1))

-- one block after another
order_reached : (p : ProgramShape) → IsSound p → (ts : List Ticket) (g : Configuration) (order : List Ticket) (s : Plain) → IsQuiet p order g.begun s
    → LegalFrom p g.begun ts → Reaches p s (IsQuiet p (order ++ ts) (configuration_from p g ts).begun)
order_reached p sound [] g order s now legal = search (rules, stay, append-nil)
order_reached p sound (t ∷ ts) g order s now (index, left, legal) =
    let next = one_block_on p t.client g in
    let goal = IsQuiet p (order ++ t ∷ ts) (configuration_from p next ts).begun in
    let rest : LegalFrom p next.begun ts = subst (λ n. LegalFrom p (put g.begun t.client (suc n)) ts) index legal in
    onward p s (IsQuiet p (order ++ t ∷ []) next.begun) goal (block_reached p sound order g.begun t index left s now)
    (λ n quiet.
    subst (λ o. Reaches p n (IsQuiet p o (configuration_from p next ts).begun)) (append_assoc order (t ∷ []) ts)
    (order_reached p sound ts next (order ++ t ∷ []) n quiet rest))

-- nobody has a block left
done_from : (p : ProgramShape) (cs : List Client) (from : ℕ) → ((i : ℕ) → is_done p (i + from) (get_or cs i no_client) ≡ true) → all_done p from cs ≡ true
done_from p [] from each = refl
done_from p (it ∷ cs) from each =
    let none : 0 + from ≡ from = omega arith in
    let first : is_done p from it ≡ true = subst (λ c. is_done p c it ≡ true) none (each 0) in
    rw first
    (done_from p cs (suc from) (λ i. let same : suc i + from ≡ i + suc from = omega arith in subst (λ c. is_done p c (get_or cs i no_client) ≡ true) same (each (suc i))))

all_are_idle : (hs : List Handler) → ((g : ℕ) → (handler_at hs g).queues ≡ []) → all_idle hs ≡ true
all_are_idle [] none = refl
all_are_idle (h ∷ hs) none = rw (none 0) (all_are_idle hs (λ g. none (suc g)))

pub out_is : (g : StageOfClient) → IsOut g → is_out g ≡ true
out_is v is = search rules

done_one : (p : ProgramShape) (c : ℕ) (it : Client) → IsOut it.stage → begun_blocks it ≡ blocks_of p c → is_done p c it ≡ true
done_one p c it is all = rw (out_is it.stage is, all) (eqb_self (blocks_of p c))

quiet_finished : (p : ProgramShape) (order : List Ticket) (blocks : ℕ → ℕ) (s : Plain) → IsQuiet p order blocks s → ((c : ℕ) → blocks c ≡ blocks_of p c)
    → is_finished p s ≡ true
quiet_finished p order blocks s now all = search (rules, done_from, done_one, all_are_idle)

-- at the beginning nobody is in a block
pub begin_quiet : (p : ProgramShape) → IsQuiet p [] (first_configuration p).begun (begin p)
begin_quiet p = search (rules, length-map-range_with_len, get_or-map-range_with_len, get_or_past)

-- the blocks of a legal order have begun at its end
counted_from : (p : ProgramShape) (g : Configuration) (ts : List Ticket) (c : ℕ) → g.begun c ≤ (configuration_from p g ts).begun c
counted_from p g [] c = omega arith
counted_from p g (t ∷ ts) c = grind (arith, put_here, put_there, num_cases, counted_from p (one_block_on p t.client g) ts c)

-- a block that was begun has ended where its client stands between two blocks
ended_there : (s : Plain) (t : Ticket) → IsOut (client_at s t.client).stage → t.index < begun_blocks (client_at s t.client) → ended_at s t ≡ true
ended_there s t is less = search (rules, out_is, eqb_self)

all_ended : (p : ProgramShape) (s : Plain) (g : Configuration) (ts : List Ticket) → LegalFrom p g.begun ts
    → ((c : ℕ) → IsOut (client_at s c).stage) → ((c : ℕ) → begun_blocks (client_at s c) ≡ (configuration_from p g ts).begun c)
    → AllByRecursion (λ e. e ≡ true) (map (ended_at s) ts)
all_ended p s g [] legal stages begun = tt
all_ended p s g (t ∷ ts) legal stages begun =
    let next = one_block_on p t.client g in
    let here : put g.begun t.client (suc (g.begun t.client)) t.client ≡ suc (g.begun t.client) = put_here g.begun t.client (suc (g.begun t.client)) in
    let later = counted_from p next ts t.client in
    let index : t.index ≡ g.begun t.client = legal.0 in
    let all = begun t.client in (
      ended_there s t (stages t.client) (omega (arith, here, later, index, all)),
      all_ended p s next ts (legal_on p g t ts legal) stages begun,
    )

-- what is shown of a state in which nobody is in a block
pub shown_in_order : (p : ProgramShape) → IsSound p → (order : List Ticket) → IsLegal p order → (picks : List Actor) → all_named p picks ≡ true
    → (s : Plain) → s ≡ plays p picks (begin p) → IsQuiet p order (configuration_after p order).begun s → IsPlayedInOrder p order (played_of p s)
unfolding scheduled
shown_in_order p sound order legal picks named s is quiet =
    let there : s ≡ scheduled p picks 0 = is ∙ ap (λ xs. plays p xs (begin p)) (sym (append-nil picks)) in
    let blocks = λ (complete : IsComplete p order). (complete_orders_leave_none p order legal).0 complete in
    record {
      picks = picks;
      played = (omega arith, named, ap (played_of p) there);
      order = quiet.order;
      ended = subst (λ ts. AllByRecursion (λ e. e ≡ true) (map (ended_at s) ts)) (sym quiet.order)
          (all_ended p s (first_configuration p) order legal quiet.stages quiet.begun);
      finished = λ complete. quiet_finished p order (configuration_after p order).begun s quiet (blocks complete);
      isolated = subst (λ s. IsIsolated p (played_of p s) (commands_in_queue (scheduled p picks 0))) (sym there) (runs_isolated p sound (picks ++ []));
      counted = subst (λ s. AreQueriesCounted p (scheduled p picks 0) (played_of p s)) (sym there) (plain_syncs_counted p sound (picks ++ []));
    }

pub orders_played : OrdersArePlayed
orders_played p sound order legal =
    let found = order_reached p sound order (first_configuration p) [] (begin p) (begin_quiet p) legal in
    let s = plays p found.0 (begin p) in
    (played_of p s, shown_in_order p sound order legal found.0 found.1 s refl found.2)
