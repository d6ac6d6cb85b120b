-- Two ends whose objects are the same, and whose variables are as far as the clients' texts name them, are the same
-- outcome, since a variable that no text names is 0, and nothing stands past the last client and the last object.
use Rattle.std.proofs.Common.{◌≡◌, ◌<◌, ℕ, List, ◌++◌, length, get_or, take, drop, sym, ap, ◌∙◌, subst, arith, pos}
use Rattle.std.proofs.lemmas.List.{ext_get_or, get_or-take, length-take}
use Rattle.qs_objects.specs.declared.held.Ticket.{Ticket}
use Rattle.qs_objects.specs.Objects.{IsInRange}
use Rattle.qs_program.specs.audit.Program.{ProgramShape, client_at}
use Rattle.qs_program.specs.Sound.{IsSound}
use Rattle.qs_program.specs.audit.Values.{Locals}
use Rattle.qs_meaning.specs.audit.Configurations.{configuration_after}
use Rattle.qs_meaning.specs.Configurations.{AreNamedAlone, OrderOutcome, outcome_in}
use Rattle.qs_meaning.specs.audit.Serial.{zeros}
use Rattle.qs_meaning.specs.audit.Solo.{States}
use Rattle.qs_meaning.proofs.Orders.{configurations_follow_orders}
use Rattle.qs_meaning.proofs.StateRanges.{orders_keep_ranges}
use Rattle.qs_meaning.proofs.Unnamed.{unnamed_stay_zero}
use Rattle.qs_outcomes.specs.Outcomes.{IsListedAfter, outcome_at}
use Rattle.qs_standings.specs.Standings.{StandingShape}
use Rattle.qs_text.specs.TellApart.{AreSame}
use Rattle.qs_text.specs.audit.Words.{no_state}

same_front : (n : ℕ) (l m : Locals) → length l ≡ length m → AreSame n l m → take n l ≡ take n m
same_front n l m long each =
    let long_l = length-take n l in let long_m = length-take n m in
    ext_get_or (pos 0) (take n l) (take n m) (omega (arith, long, long_l, long_m)) (λ i less.
    (let below : i < n = omega (arith, less, long_l) in get_or-take n l i (pos 0) below ∙ (each i below ∙ sym (get_or-take n m i (pos 0) below))))

same_named : (p : ProgramShape) (c : ℕ) (l m : Locals) → AreNamedAlone p c l → AreNamedAlone p c m
    → AreSame (length (client_at p c).variables) l m → l ≡ m
same_named p c l m a b same =
    let n = length (client_at p c).variables in
    a.named ∙ (ap (λ xs. xs ++ drop n zeros) (same_front n l m (a.long ∙ sym b.long) same) ∙ sym b.named)

module _ (p : ProgramShape) (sound : IsSound p) (front : List Ticket) (s : StandingShape) (is : IsListedAfter p front s) where
  reached : outcome_in (configuration_after p s.order) ≡ outcome_at s
  reached = configurations_follow_orders p s.order is.complete.legal ∙ sym is.outcome

  named : (c : ℕ) → AreNamedAlone p c (get_or s.locals c zeros)
  named c = subst (AreNamedAlone p c) (ap (λ (o : OrderOutcome). o.locals c) reached) (unnamed_stay_zero p sound s.order c)

  pub in_range : (h : ℕ) → IsInRange (get_or s.states h no_state).content
  in_range h = subst (λ (st : States). IsInRange (st h).content) (ap (λ (o : OrderOutcome). o.states) reached) (orders_keep_ranges p sound s.order h)

module _ (p : ProgramShape) (sound : IsSound p) (front other : List Ticket) (s t : StandingShape) (a : IsListedAfter p front s)
    (b : IsListedAfter p other t) where
  pub same_outcome : ((h : ℕ) → h < length p.objects → get_or s.states h no_state ≡ get_or t.states h no_state)
      → ((c : ℕ) → c < length p.clients → AreSame (length (client_at p c).variables) (get_or s.locals c zeros) (get_or t.locals c zeros))
      → outcome_at s ≡ outcome_at t
  same_outcome states variables =
      let objects = ext_get_or no_state s.states t.states (a.places.states ∙ sym b.places.states) (λ h less. states h (omega (arith, less, a.places.states))) in
      let clients = ext_get_or zeros s.locals t.locals (a.places.locals ∙ sym b.places.locals)
      (λ c less. same_named p c (get_or s.locals c zeros) (get_or t.locals c zeros) (named p sound front s a c) (named p sound other t b c)
      (variables c (omega (arith, less, a.places.locals)))) in
      λ i. record { locals = λ c. get_or (clients i) c zeros; states = λ h. get_or (objects i) h no_state }
