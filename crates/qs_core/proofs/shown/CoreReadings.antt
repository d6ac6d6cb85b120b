-- What is read off the code's lists of clients and handlers is what the optimised machine shows, and all of it is there
-- to be read. The contract of `into_played` promises it. What is shown is compared part by part: a client or a handler
-- of the program is in its list, and an object is where its handler's state says, by cases on that state.
use Rattle.std.proofs.Common.{◌≡◌, ◌<◌, ℕ, zero, suc, ◌+◌, Bool, ◌&&◌, [], ◌∷◌, length, map, sum_by, nat_eq, Some, IsSome, refl, ap, sym, subst, ◌∙◌, arith, rules}
use Rattle.qs_played.proofs.Names.{range_with_len, HeldState, Request, AllByRecursion-get_or, IsSound, fresh_held}
use Rattle.qs_core_laws.proofs.Names.{Batch, is_between, all_of, core_played, found_by, held_now, held_or_none, is_done, is_finished, is_idle}
use Rattle.qs_handler.specs.audit.Handler.{Handler, free, act_of}
use Rattle.qs_handler.specs.declared.mind.Act.{Act}
use Rattle.qs_handler.specs.declared.mind.Act.TheVariants as acts
use Rattle.qs_core_laws.specs.CoreReached.{ReachedCore}
use Rattle.qs_core.proofs.Names.{is_waiting, CoreHandlerState, handler_with_act, no_core_handler, core_handler_at, turns_to}
use Rattle.qs_core.specs.shown.CoreShown.{AreBegunBy, AreShowable, AreSomewhere, HaveLanes, TurnTo, are_clear, core_in, core_held_at, is_through, core_object_at, object_with, shown_by}
use Rattle.qs_core.specs.state.CoreState.{CoreKeeps, CoreState, IsCoreState, core_of, core_handler_of, client_part_at, tickets_at}
use Rattle.qs_core.proofs.state.CoreLists.{map_here}

-- two readings of each number of a range that agree
map_range : {A : Type 0} (f g : ℕ → A) (a n : ℕ) → ((k : ℕ) → k < a + n → f k ≡ g k) → map f (range_with_len a n) ≡ map g (range_with_len a n)
map_range f g a zero same = refl
map_range f g a (suc n) same = λ k. same a (omega arith) k ∷ map_range f g (a + 1) n (λ m less. same m (omega (arith, less))) k

all_range : (f g : ℕ → Bool) (a n : ℕ) → ((k : ℕ) → k < a + n → f k ≡ g k) → all_of f (range_with_len a n) ≡ all_of g (range_with_len a n)
all_range f g a zero same = refl
all_range f g a (suc n) same = λ k. same a (omega arith) k && all_range f g (a + 1) n (λ m less. same m (omega (arith, less))) k

-- a handler turns to a client for a parcel, or to give the object or a chunk
turned_at : (n : ℕ) (act : Act) → ((c : ℕ) → act ≡ acts.TakeParcel c → c < n) → ((c : ℕ) (x : HeldState) → act ≡ acts.Give c x → c < n)
    → ((c : ℕ) (chunk : Batch Request) → act ≡ acts.Spare c chunk → c < n) → (c : ℕ) → turns_to act ≡ Some c → c < n
turned_at n v parcel object chunk c e = grind arith

module _ (s : CoreState) (h : ℕ) (inside : h < length s.handlers) where
  pub handler_is : core_handler_of s.program s.handlers h ≡ handler_with_act (core_handler_at s.handlers h)
  handler_is = map_here handler_with_act s.handlers h no_core_handler (free (fresh_held s.program h)) inside

  pub tickets_are : tickets_at s.handlers h ≡ (core_handler_at s.handlers h).tickets
  tickets_are = map_here (λ (x : CoreHandlerState). x.tickets) s.handlers h no_core_handler [] inside

  found_same : (x : Handler) → found_by (core_of s) h x ≡ found_by (core_in s.clients) h x
  unfolding core_of
  found_same v = search rules

  object_is : found_by (core_of s) h ((core_of s).handler h) ≡ core_object_at s.clients s.handlers h
  unfolding core_of object_with
  object_is = ap (found_by (core_of s) h) handler_is ∙ found_same (handler_with_act (core_handler_at s.handlers h))

  idle_is : length s.program.clients ≡ length s.clients → is_idle s.program (core_of s) h ≡ (is_waiting (core_handler_at s.handlers h) && are_clear s.clients h)
  unfolding core_of
  idle_is many = search (rules, handler_is, tickets_are)

begun_in : (s : CoreState) → IsCoreState s → CoreKeeps s → AreBegunBy s.clients s.order
unfolding core_of ReachedCore
begun_in s is keeps i d inside = search (rules, AllByRecursion-get_or)

pub lanes_in : (s : CoreState) → IsCoreState s → HaveLanes s.clients s.handlers
lanes_in s is h inside c here = let lanes = (is.sides c here).lanes in omega (arith, lanes, is.handlers, inside)

-- the client of the lane that a handler turns to is one of the program
pub turned_inside : (s : CoreState) → CoreKeeps s → (h c : ℕ) → turns_to (act_of ((core_of s).handler h)) ≡ Some c → c < length s.program.clients
unfolding core_of ReachedCore
turned_inside s keeps h c turned = search (rules, turned_at)

pub turns_in : (s : CoreState) → IsCoreState s → CoreKeeps s → TurnTo s.clients s.handlers
unfolding core_of
turns_in s is keeps h inside c turned =
    subst (λ n. c < n) (sym is.clients) (turned_inside s keeps h c (ap (λ x. turns_to (act_of x)) (handler_is s h inside) ∙ turned))

somewhere_in : (s : CoreState) → CoreKeeps s → AreSomewhere s.clients s.handlers
unfolding ReachedCore
somewhere_in s keeps h inside = subst IsSome (object_is s h inside) (keeps.found h)

-- all that is shown can be read off
pub showable : (s : CoreState) → IsCoreState s → CoreKeeps s → IsSound s.program → AreShowable s.order s.clients s.handlers
showable s is keeps sound = grind (arith, begun_in, lanes_in, turns_in, somewhere_in)

done_is : (s : CoreState) → IsCoreState s → (c : ℕ) → c < length s.program.clients → is_done s.program (core_of s) c ≡ is_through (client_part_at s.clients c).mind
unfolding core_of
done_is s is c inside = let m = (client_part_at s.clients c).mind in ap (λ n. is_between m.client.stage && nat_eq m.client.begun n) (sym (is.codes.own c inside).count)

pub finished_is : (s : CoreState) → IsCoreState s → is_finished s.program (core_of s) ≡ (shown_by s.order s.clients s.handlers).finished
unfolding shown_by
finished_is s is = grind (arith, all_range, done_is, idle_is)

held_is : (s : CoreState) → IsCoreState s → (h : ℕ) → h < length s.program.objects → held_now (core_of s) h ≡ core_held_at s.clients s.handlers h
held_is s is h inside = ap held_or_none (object_is s h (omega (arith, inside, is.handlers)))

-- a reading of each object
of_objects : {A : Type 0} (f : HeldState → A) (s : CoreState) → IsCoreState s
    → map (λ h. f (held_now (core_of s) h)) (range_with_len 0 (length s.program.objects)) ≡ map (λ h. f (core_held_at s.clients s.handlers h)) (range_with_len 0 (length s.handlers))
of_objects f s is = grind (arith, map_range, held_is, map)

-- what the machine shows is what is read off its lists
pub shown_is : (s : CoreState) → IsCoreState s → core_played s.program (core_of s) ≡ shown_by s.order s.clients s.handlers
unfolding core_of shown_by
shown_is s is = λ k. record {
  order = s.order;
  ended = (shown_by s.order s.clients s.handlers).ended;
  entries = (shown_by s.order s.clients s.handlers).entries;
  traces = (shown_by s.order s.clients s.handlers).traces;
  sync_counts = (shown_by s.order s.clients s.handlers).sync_counts;
  journals = of_objects (λ (x : HeldState). x.journal) s is k;
  states = of_objects (λ (x : HeldState). x.object) s is k;
  syncs = sum_by (λ c. (client_part_at s.clients c).mind.syncs) (range_with_len 0 (sym is.clients k));
  finished = finished_is s is k;
}
