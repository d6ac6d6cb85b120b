-- Each legal order of blocks is played on the optimised machine, in every mode and with every chunk size: one block
-- after another, each alone. Where nobody is in a block, the next ticket's client reserves, and then turns until its
-- block is over; each turn leaves fewer steps of the client, so it ends. So it goes by induction on the order, with the
-- configuration that counts the blocks that each client has begun. At the end each block has ended; where nobody has a
-- block left, the run is finished.
use Rattle.std.proofs.Common.{◌≡◌, ◌<◌, ◌≤◌, ◌∙◌, ◌==◌, ◌++◌, ◌∷◌, [], ℕ, zero, suc, Bool, true, false, nat_eq, nat_lt, List, refl, sym, ap, subst, length, map, append_assoc, append-nil, ⊎_elim, arith, rules}
use Rattle.qs_played.proofs.Names.{lt-ltb, AllByRecursion, range_with_len, Ticket, and_cases, num_cases, ProgramShape, blocks_of, IsSound, Configuration, IsComplete, configuration_after, configuration_from, first_configuration, one_block_on, IsLegal, LegalFrom, put, complete_orders_leave_none, legal_on, put_here, put_there, fresh_held, all_named, names_actor}
use Rattle.qs_played.specs.declared.schedule.actor.Actor.{Actor}
use Rattle.qs_core_laws.proofs.Names.{nat_tests, Mode, ClientCode, AreCodes, is_free, has_ended, is_between, no_block_beyond, plays_by-append, Core, core_begin, core_step, all_of, core_played, core_plays, is_done, is_finished, is_idle, CoreOrdersArePlayed, IsPlayedInOrderOn, IsCoreQuiet, turn_of, two_of_each}
use Rattle.qs_played.specs.Isolation.{IsIsolated}
use Rattle.qs_played.specs.SyncSums.{AreSyncsCounted}
use Rattle.qs_played.specs.declared.schedule.actor.Actor.TheVariants as actor
use Rattle.qs_core_laws.specs.CoreSchedule.{core_scheduled, on_way}
use Rattle.qs_core_laws.proofs.CoreIsolating.{core_isolated}
use Rattle.qs_core_laws.proofs.CoreSteps.{HasInvariant, begin_kept, plays_kept}
use Rattle.qs_core_laws.proofs.CoreSyncs.{core_syncs_counted}
use Rattle.qs_core_laws.proofs.orders.Turns.{IsWithin, serve_each}
use Rattle.qs_core_laws.proofs.orders.ClientTurns.{client_turns}
use Rattle.qs_core_laws.proofs.orders.Entering.{block_over, comes_in, most_turns}

pub named_append : (p : ProgramShape) (xs ys : List Actor) → all_named p xs ≡ true → all_named p ys ≡ true → all_named p (xs ++ ys) ≡ true
named_append p [] ys x y = y
named_append p (a ∷ xs) ys x y =
    let both = and_cases (names_actor p a) (all_named p xs) x in
    rw both.0 (named_append p xs ys both.1 y)

named_two : (p : ProgramShape) (n : ℕ) → n ≤ length p.objects → all_named p (two_of_each n) ≡ true
named_two p zero le = refl
named_two p (suc n) le =
    let here : nat_lt n (length p.objects) ≡ true = lt-ltb n (length p.objects) le in
    named_append p (two_of_each n) (actor.Handler n ∷ actor.Handler n ∷ []) (named_two p n (omega (arith, le))) (rw here refl)

-- a turn names actors of the program
pub turn_named : (p : ProgramShape) (c : ℕ) → c < length p.clients → all_named p (turn_of p c) ≡ true
turn_named p c less =
    let here : nat_lt c (length p.clients) ≡ true = lt-ltb c (length p.clients) less in
    rw here (named_two p (length p.objects) (omega arith))

module _ (p : ProgramShape) (sound : IsSound p) (mode : Mode) (code : ℕ → ClientCode) (codes : AreCodes p mode code) (size : ℕ) where
  -- some actors of the program, by whose steps a state with a property comes
  abbrev Reaches : Core → (Core → Type 0) → Type 0
  Reaches s Q = (actors : List Actor) × (all_named p actors ≡ true) × Q (core_plays code size actors s)

  onward : (s : Core) (Q R : Core → Type 0) (xs : List Actor) → all_named p xs ≡ true → Q (core_plays code size xs s)
      → ((n : Core) → Q n → Reaches n R) → Reaches s R
  onward s Q R xs named q next =
      let rest = next (core_plays code size xs s) q in (
        xs ++ rest.0,
        named_append p xs rest.0 named rest.1,
        subst R (sym (plays_by-append (core_step code size) xs rest.0 s)) rest.2,
      )

  abbrev Kept : Core → Type 0
  Kept s = HasInvariant p sound mode code codes size s

  module _ (so_far : List Ticket) (counts : ℕ → ℕ) (t : Ticket) (latest : counts t.client ≡ suc t.index) where
    abbrev pub Stands : ℕ → Core → Type 0
    Stands n s = IsWithin p so_far counts t (length p.objects) n s

    -- after a turn fewer steps are left
    pub turn_on : (n : ℕ) (s : Core) → Stands n s → Kept s → is_between (s.client t.client).stage ≡ false
        → (k : ℕ) × (k < n) × Stands k (core_plays code size (turn_of p t.client) s)
    turn_on n s now kept inside =
        let went = client_turns p sound mode code codes size so_far counts t latest n s now kept inside in
        (went.0, went.1, serve_each p so_far counts t code size (length p.objects) went.0 _ (omega arith) went.2)

    -- the block is played to its end
    abbrev IsOver : Core → Type 0
    IsOver x = IsCoreQuiet so_far counts x × Kept x

    over_or_on : (n : ℕ) (s : Core) → Stands n s → Kept s → (b : Bool) → is_between (s.client t.client).stage ≡ b
        → (is_between (s.client t.client).stage ≡ false → Reaches s IsOver) → Reaches s IsOver
    over_or_on n s now kept true e next = ([], refl, (block_over p sound mode code codes size so_far counts t latest n s now kept e, kept))
    over_or_on n s now kept false e next = next e

    block_played : t.client < length p.clients → (fuel n : ℕ) (s : Core) → n ≤ fuel → Stands n s → Kept s → Reaches s IsOver
    block_played client zero n s le now kept = over_or_on n s now kept (is_between (s.client t.client).stage) refl (λ e.
        let on = turn_on n s now kept e in absurd (let less = on.1 in omega (arith, less, le)))
    block_played client (suc fuel) n s le now kept = over_or_on n s now kept (is_between (s.client t.client).stage) refl (λ e.
        let on = turn_on n s now kept e in
        onward s (λ x. Stands on.0 x × Kept x) IsOver (turn_of p t.client) (turn_named p t.client client)
        (on.2, plays_kept p sound mode code codes size (turn_of p t.client) s kept)
        (λ x both. block_played client fuel on.0 x (let less = on.1 in omega (arith, less, le)) both.0 both.1))

  -- the first turn leads into the block
  pub turn_in : (so_far : List Ticket) (counts : ℕ → ℕ) (t : Ticket) → t.index ≡ counts t.client → t.index < blocks_of p t.client → (s : Core) → IsCoreQuiet so_far counts s → Kept s
      → IsWithin p (so_far ++ t ∷ []) (put counts t.client (suc (counts t.client))) t (length p.objects) (most_turns p t) (core_plays code size (turn_of p t.client) s)
  turn_in so_far counts t index some s quiet kept =
      serve_each p (so_far ++ t ∷ []) (put counts t.client (suc (counts t.client))) t code size (length p.objects) (most_turns p t) _ (omega arith)
      (comes_in p sound mode code codes size so_far counts t index some s kept quiet)

  pub has_begun : (counts : ℕ → ℕ) (t : Ticket) → t.index ≡ counts t.client → put counts t.client (suc (counts t.client)) t.client ≡ suc t.index
  has_begun counts t index = put_here counts t.client (suc (counts t.client)) ∙ ap suc (sym index)

  -- one block after another
  order_played : (ts : List Ticket) (g : Configuration) (order : List Ticket) (s : Core) → IsCoreQuiet order g.begun s → Kept s → LegalFrom p g.begun ts
      → Reaches s (IsCoreQuiet (order ++ ts) (configuration_from p g ts).begun)
  order_played [] g order s now kept legal = ([], refl, subst (λ o. IsCoreQuiet o g.begun s) (sym (append-nil order)) now)
  order_played (t ∷ ts) g order s now kept (index, left, legal) =
      let next = one_block_on p t.client g in
      let later = order ++ t ∷ [] in
      let client = no_block_beyond p t.client (omega (arith, left)) in
      let goal = IsCoreQuiet (order ++ t ∷ ts) (configuration_from p next ts).begun in
      let rest : LegalFrom p next.begun ts = subst (λ n. LegalFrom p (put g.begun t.client (suc n)) ts) index legal in
      onward s (λ x. Stands later next.begun t (has_begun g.begun t index) (most_turns p t) x × Kept x) goal (turn_of p t.client) (turn_named p t.client client)
      (turn_in order g.begun t index left s now kept, plays_kept p sound mode code codes size (turn_of p t.client) s kept)
      (λ x both.
      let over = block_played later next.begun t (has_begun g.begun t index) client (most_turns p t) (most_turns p t) x (omega arith) both.0 both.1 in
      onward x (λ z. IsCoreQuiet later next.begun z × Kept z) goal over.0 over.1 over.2
      (λ z quiet.
      subst (λ o. Reaches z (IsCoreQuiet o (configuration_from p next ts).begun)) (append_assoc order (t ∷ []) ts)
      (order_played ts next later z quiet.0 quiet.1 rest)))

-- at the beginning nobody is in a block
pub begin_quiet : (p : ProgramShape) → IsCoreQuiet [] (first_configuration p).begun (core_begin p)
begin_quiet p = record {
  order = refl;
  begun = λ c. refl;
  stages = λ c. refl;
  lanes = λ c h. record { down = refl; up = refl; spare = refl };
  handlers = λ h. (fresh_held p h, refl);
  tickets = λ h. refl;
}

each_of : (f : ℕ → Bool) (xs : List ℕ) → ((x : ℕ) → f x ≡ true) → all_of f xs ≡ true
each_of f [] all = refl
each_of f (x ∷ xs) all = rw (all x) (each_of f xs all)

module _ (p : ProgramShape) (order : List Ticket) (counts : ℕ → ℕ) (s : Core) (quiet : IsCoreQuiet order counts s) where
  done_each : ((c : ℕ) → counts c ≡ blocks_of p c) → (c : ℕ) → is_done p s c ≡ true
  done_each all c =
      let same : nat_eq (s.client c).begun (blocks_of p c) ≡ true = (let b = quiet.begun c ∙ all c in grind (arith, nat_tests, b)) in
      rw (quiet.stages c, same) refl

  idle_each : (h : ℕ) → is_idle p s h ≡ true
  idle_each h =
      let free : is_free (s.handler h) ≡ true = ap is_free (quiet.handlers h).1 in
      let none : nat_eq (length (s.tickets h)) 0 ≡ true = ap (λ ts. nat_eq (length ts) 0) (quiet.tickets h) in
      let clear = each_of (λ c. nat_eq (length (s.down c h)) 0) (range_with_len 0 (length p.clients)) (λ c. ap (λ ps. nat_eq (length ps) 0) (quiet.lanes c h).down) in
      rw (free, none) clear

  quiet_finished : ((c : ℕ) → counts c ≡ blocks_of p c) → is_finished p s ≡ true
  quiet_finished all = search (rules, each_of, done_each, idle_each)

  -- a block that was begun has ended where its client stands between two blocks
  ended_there : (t : Ticket) → t.index < counts t.client → has_ended (s.client t.client) t.index ≡ true
  ended_there t less = search (rules, nat_tests)

-- the blocks of a legal order have begun at its end
counted_from : (p : ProgramShape) (g : Configuration) (ts : List Ticket) (c : ℕ) → g.begun c ≤ (configuration_from p g ts).begun c
counted_from p g [] c = omega arith
counted_from p g (t ∷ ts) c =
    let later = counted_from p (one_block_on p t.client g) ts c in
    ⊎_elim
    (λ (is : t.client ≡ c).
    let more : put g.begun t.client (suc (g.begun t.client)) c ≡ suc (g.begun c) =
    subst (λ c. put g.begun t.client (suc (g.begun t.client)) c ≡ suc (g.begun c)) is (put_here g.begun t.client (suc (g.begun t.client))) in
    omega (arith, later, more))
    (λ (other : (t.client == c) ≡ false).
    let same : put g.begun t.client (suc (g.begun t.client)) c ≡ g.begun c = put_there g.begun t.client (suc (g.begun t.client)) c other in
    omega (arith, later, same))
    (num_cases t.client c)

all_ended : (p : ProgramShape) (order : List Ticket) (counts : ℕ → ℕ) (s : Core) → IsCoreQuiet order counts s → (g : Configuration) (ts : List Ticket) → LegalFrom p g.begun ts
    → ((c : ℕ) → counts c ≡ (configuration_from p g ts).begun c) → AllByRecursion (λ e. e ≡ true) (map (λ (t : Ticket). has_ended (s.client t.client) t.index) ts)
all_ended p order counts s quiet g [] legal begun = tt
all_ended p order counts s quiet g (t ∷ ts) legal begun =
    let next = one_block_on p t.client g in
    let here : put g.begun t.client (suc (g.begun t.client)) t.client ≡ suc (g.begun t.client) = put_here g.begun t.client (suc (g.begun t.client)) in
    let later = counted_from p next ts t.client in
    let index : t.index ≡ g.begun t.client = legal.0 in
    let all = begun t.client in (
      ended_there p order counts s quiet t (omega (arith, here, later, index, all)),
      all_ended p order counts s quiet next ts (legal_on p g t ts legal) begun,
    )

-- what is shown of a state in which nobody is in a block
pub shown_in_order : (p : ProgramShape) → IsSound p → (mode : Mode) (code : ℕ → ClientCode) → AreCodes p mode code → (size : ℕ) (order : List Ticket) → IsLegal p order
    → (picks : List Actor) → all_named p picks ≡ true → (s : Core) → s ≡ core_plays code size picks (core_begin p) → IsCoreQuiet order (configuration_after p order).begun s
    → IsPlayedInOrderOn p mode size order (core_played p s)
unfolding core_scheduled
shown_in_order p sound mode code codes size order legal picks named s is quiet =
    let there : s ≡ core_scheduled p code size picks 0 = is ∙ ap (λ xs. core_plays code size xs (core_begin p)) (sym (append-nil picks)) in
    let blocks = λ (complete : IsComplete p order). (complete_orders_leave_none p order legal).0 complete in
    record {
      picks = picks;
      played = (omega arith, named, (code, codes, ap (core_played p) there));
      order = quiet.order;
      ended = subst (λ ts. AllByRecursion (λ e. e ≡ true) (map (λ (t : Ticket). has_ended (s.client t.client) t.index) ts)) (sym quiet.order)
          (all_ended p order (configuration_after p order).begun s quiet (first_configuration p) order legal (λ c. refl));
      finished = λ complete. quiet_finished p order (configuration_after p order).begun s quiet (blocks complete);
      code = code;
      codes = codes;
      shown = ap (core_played p) there;
      isolated = subst (λ x. IsIsolated p (core_played p x) (on_way (core_scheduled p code size picks 0))) (sym there) (core_isolated p sound mode code codes size (picks ++ []));
      counted = subst (λ x. AreSyncsCounted p mode (core_played p x)) (sym there) (core_syncs_counted p sound mode code codes size (picks ++ []));
    }

pub core_orders_played : CoreOrdersArePlayed
core_orders_played p sound mode code codes size order legal =
    let found = order_played p sound mode code codes size order (first_configuration p) [] (core_begin p) (begin_quiet p) (begin_kept p sound mode code codes size) legal in
    let s = core_plays code size found.0 (core_begin p) in
    (core_played p s, shown_in_order p sound mode code codes size order legal found.0 found.1 s refl found.2)
