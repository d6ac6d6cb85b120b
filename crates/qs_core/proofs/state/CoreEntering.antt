-- A ticket that is added to the queues of a list of handlers, one after another, is then at the end of exactly these
-- queues, and the handlers' minds stay as they were. The lemma on reservations in the code needs this, and that each
-- queue and the order have room. The proofs go by induction on the list, whose members differ, and for the room by a
-- sum over the clients.
use Rattle.std.proofs.Common.{◌≡◌, ◌<◌, ◌≤◌, ℕ, zero, suc, ◌+◌, ◌==◌, ◌||◌, Bool, true, false, nat_lt, if◌then◌else◌, List, [], ◌∷◌, ◌++◌, length, filter, sum_by, refl, sym, ap, subst, ◌∙◌, arith}
use Rattle.std.specs.List.{AllByRecursion, IsDistinct, range_with_len}
use Rattle.qs_played.proofs.Names.{length-set, get_or-set_other, IsDistinct-head, IsDistinct-tail, Ticket, AllByRecursion-get_or, ProgramShape, put, is_in}
use Rattle.qs_core.proofs.Names.{put_same, CanEnterAll, CoreHandlerState, with_ticket, with_ticket_at_all, with_ticket_at, handler_with_act, no_core_handler, core_handler_at, core_handler_of, tickets_at}
use Rattle.qs_played.proofs.Lists.{sum_by-range_more}
use Rattle.qs_core.proofs.state.CoreLists.{all_set, handler_put, map_here, tickets_put_at}

module _ (t : Ticket) where
  pub length_entered : (hs : List CoreHandlerState) (rs : List ℕ) → length (with_ticket_at_all t hs rs) ≡ length hs
  length_entered hs [] = refl
  length_entered hs (h ∷ rest) = length_entered (with_ticket_at t hs h) rest ∙ length-set hs h (with_ticket t (core_handler_at hs h))

  -- the handlers' minds stay
  pub handlers_entered : (p : ProgramShape) (hs : List CoreHandlerState) (rs : List ℕ) → AllByRecursion (λ h. h < length hs) rs → core_handler_of p (with_ticket_at_all t hs rs) ≡ core_handler_of p hs
  handlers_entered p hs [] inside = refl
  handlers_entered p hs (h ∷ rest) inside =
      handlers_entered p (with_ticket_at t hs h) rest (subst (λ n. AllByRecursion (λ k. k < n) rest) (sym (length-set hs h (with_ticket t (core_handler_at hs h)))) inside.1)
      ∙ handler_put p hs h (with_ticket t (core_handler_at hs h)) inside.0
      ∙ put_same (core_handler_of p hs) h (handler_with_act (with_ticket t (core_handler_at hs h))) (map_here handler_with_act hs h no_core_handler _ inside.0)

  one_entered : (hs : List CoreHandlerState) (h : ℕ) → h < length hs → tickets_at (with_ticket_at t hs h) ≡ put (tickets_at hs) h (tickets_at hs h ++ t ∷ [])
  one_entered hs h inside =
      tickets_put_at hs h (with_ticket t (core_handler_at hs h)) inside
      ∙ ap (λ (ts : List Ticket). put (tickets_at hs) h (ts ++ t ∷ [])) (sym (map_here (λ (s : CoreHandlerState). s.tickets) hs h no_core_handler [] inside))

  not_in : (rs : List ℕ) (h n : ℕ) → (h == n) ≡ true → AllByRecursion (λ y. (h == y) ≡ false) rs → is_in rs n ≡ false
  not_in [] h n e far = refl
  not_in (y ∷ rs) h n e far = let other : (y == n) ≡ false = grind (arith, e, far.0) in rw other (not_in rs h n e far.1)

  -- one ticket more at each of different handlers
  pub tickets_entered : (hs : List CoreHandlerState) (rs : List ℕ) → IsDistinct ◌==◌ rs → AllByRecursion (λ h. h < length hs) rs → (n : ℕ)
      → tickets_at (with_ticket_at_all t hs rs) n ≡ (if is_in rs n then tickets_at hs n ++ t ∷ [] else tickets_at hs n)
  tickets_entered hs [] distinct inside n = refl
  tickets_entered hs (h ∷ rest) distinct inside n =
      tickets_entered (with_ticket_at t hs h) rest (IsDistinct-tail ◌==◌ h rest distinct) (subst (λ m. AllByRecursion (λ k. k < m) rest) (sym (length-set hs h (with_ticket t (core_handler_at hs h)))) inside.1) n
      ∙ (λ k. if is_in rest n then one_entered hs h inside.0 k n ++ t ∷ [] else one_entered hs h inside.0 k n)
      ∙ by_test (h == n) refl
    where
      by_test : (b : Bool) → (h == n) ≡ b
          → (if is_in rest n then (if b then tickets_at hs h ++ t ∷ [] else tickets_at hs n) ++ t ∷ [] else (if b then tickets_at hs h ++ t ∷ [] else tickets_at hs n))
          ≡ (if b || is_in rest n then tickets_at hs n ++ t ∷ [] else tickets_at hs n)
      by_test v e = grind (arith, not_in, IsDistinct-head)

  abbrev CanEnter : List CoreHandlerState → ℕ → Type 0
  CanEnter hs h = (h < length hs) × (length (core_handler_at hs h).tickets < (core_handler_at hs h).room)

  still : (hs : List CoreHandlerState) (h : ℕ) (rs : List ℕ) → AllByRecursion (λ y. (h == y) ≡ false) rs → AllByRecursion (CanEnter hs) rs → AllByRecursion (CanEnter (with_ticket_at t hs h)) rs
  still hs h [] far can = tt
  still hs h (y ∷ rs) far can =
      let same : core_handler_at (with_ticket_at t hs h) y ≡ core_handler_at hs y = get_or-set_other hs h y (with_ticket t (core_handler_at hs h)) no_core_handler (λ is. let yes : (h == y) ≡ true = grind (arith, is) in let no = far.0 in cc) in
      ((subst (λ n. y < n) (sym (length-set hs h (with_ticket t (core_handler_at hs h)))) can.0.0, subst (λ (s : CoreHandlerState). length s.tickets < s.room) (sym same) can.0.1), still hs h rs far.1 can.1)

  pub can_enter : (hs : List CoreHandlerState) (rs : List ℕ) → IsDistinct ◌==◌ rs → AllByRecursion (CanEnter hs) rs → CanEnterAll t hs rs
  can_enter hs [] distinct can = tt
  can_enter hs (h ∷ rest) distinct can = (can.0.0, can.0.1, can_enter (with_ticket_at t hs h) rest (IsDistinct-tail ◌==◌ h rest distinct) (still hs h rest (IsDistinct-head ◌==◌ h rest distinct) can.1))

  pub rooms_entered : (n : ℕ) (hs : List CoreHandlerState) (rs : List ℕ) → AllByRecursion (λ h. h < length hs) rs → AllByRecursion (λ (s : CoreHandlerState). n ≤ s.room) hs
      → AllByRecursion (λ (s : CoreHandlerState). n ≤ s.room) (with_ticket_at_all t hs rs)
  rooms_entered n hs [] inside all = all
  rooms_entered n hs (h ∷ rest) inside all =
      rooms_entered n (with_ticket_at t hs h) rest (subst (λ m. AllByRecursion (λ k. k < m) rest) (sym (length-set hs h (with_ticket t (core_handler_at hs h)))) inside.1)
      (all_set (λ (s : CoreHandlerState). n ≤ s.room) hs h (with_ticket t (core_handler_at hs h)) (AllByRecursion-get_or (λ (s : CoreHandlerState). n ≤ s.room) hs h no_core_handler all inside.0) all)

-- the tickets of the first n clients
abbrev below : ℕ → List Ticket → ℕ
below n order = length (filter (λ (t : Ticket). nat_lt t.client n) order)

abbrev of_client : ℕ → List Ticket → ℕ
of_client n order = length (filter (λ (t : Ticket). t.client == n) order)

one_more : (n : ℕ) (order : List Ticket) → below (n + 1) order ≡ below n order + of_client n order
one_more n [] = refl
one_more n (t ∷ order) = grind (arith, below, one_more n order)

none_below : (order : List Ticket) → below 0 order ≡ 0
none_below [] = refl
none_below (t ∷ order) = let e : nat_lt t.client 0 ≡ false = grind arith in rw e (none_below order)

all_below : (n : ℕ) (order : List Ticket) → AllByRecursion (λ (t : Ticket). t.client < n) order → below n order ≡ length order
all_below n [] all = refl
all_below n (t ∷ order) all = let e : nat_lt t.client n ≡ true = grind (arith, all.0) in rw e (ap suc (all_below n order all.1))

-- as many tickets as each client has at most
few_below : (b : ℕ → ℕ) (order : List Ticket) → ((c : ℕ) → of_client c order ≤ b c) → (n : ℕ) → below n order ≤ sum_by b (range_with_len 0 n)
few_below b order few zero = omega (arith, none_below order)
few_below b order few (suc n) =
    let m = few_below b order few n in
    subst (λ k. below k order ≤ sum_by b (range_with_len 0 k)) (add-one' n) (omega (arith, one_more n order, sum_by-range_more b n, few n, m))
  where
    add-one' : (n : ℕ) → n + 1 ≡ suc n
    add-one' n = omega arith

pub order_few : (b : ℕ → ℕ) (n : ℕ) (order : List Ticket) → AllByRecursion (λ (t : Ticket). t.client < n) order → ((c : ℕ) → of_client c order ≤ b c) → length order ≤ sum_by b (range_with_len 0 n)
order_few b n order all few = subst (λ m. m ≤ sum_by b (range_with_len 0 n)) (all_below n order all) (few_below b order few n)
