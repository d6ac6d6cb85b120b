-- A journal is its tickets' entries, one ticket after another along an order that has none twice; so between two
-- entries of one ticket stands none of another. By induction on the order: the entries of the first ticket are in
-- front, and none of the rest is of it.
use Rattle.std.proofs.Common.{◌≡◌, ◌≢◌, ◌∙◌, ◌<◌, ℕ, zero, suc, arith, Bool, true, false, ⊎_elim, if◌then◌else◌, List, [], ◌∷◌, ◌++◌, flat_map, length, map, refl, sym, subst}
use Rattle.std.proofs.lemmas.List.{map-append}
use Rattle.std.specs.List.{AllByRecursion}
use Rattle.qs_objects.specs.audit.Parts.{command_event, entries_of, same}
use Rattle.qs_objects.specs.declared.Request.{Request}
use Rattle.qs_objects.specs.declared.held.Entry.{Entry}
use Rattle.qs_objects.specs.declared.held.Ticket.{Ticket}
use Rattle.qs_objects.proofs.Choices.{ticket_cases}
use Rattle.qs_program.specs.audit.Program.{ProgramShape}
use Rattle.qs_meaning.proofs.Each.{each_join, each_map}
use Rattle.qs_meaning.proofs.Histories.{Apart}
use Rattle.qs_meaning.proofs.SerialRuns.{legal_apart}
use Rattle.qs_played.specs.audit.Isolation.{journal_of, ticket_at}
use Rattle.qs_played.specs.Isolation.{IsIsolated}
use Rattle.qs_played.specs.audit.Played.{Played}
use Rattle.qs_promises.specs.audit.Undisturbed.{IsUndisturbed, NoOtherBetween, ticket_in, tickets_of}
use Rattle.qs_promises.specs.Undisturbed.{BlocksAreUndisturbed}
use Rattle.qs_promises.proofs.Isolating.{all_isolated}

never : (t : Ticket) (ts : List Ticket) → AllByRecursion (λ u. t ≢ u) ts → (c : ℕ) → c < length ts
    → ticket_in ts c ≡ t → ⊥
never t [] others c inside is = absurd (omega (arith, inside))
never t (u ∷ ts) others zero inside is = others.0 (sym is)
never t (u ∷ ts) others (suc c) inside is = never t ts others.1 c (omega (arith, inside)) is

-- what stands before a place of the ticket is of the ticket
all_before : (t : Ticket) (own rest : List Ticket) → AllByRecursion (λ u. u ≡ t) own → AllByRecursion (λ u. t ≢ u) rest
    → (b c : ℕ) → b < c → c < length (own ++ rest) → ticket_in (own ++ rest) c ≡ t → ticket_in (own ++ rest) b ≡ t
all_before t [] rest mine others b c bc inside is = absurd (never t rest others c inside is)
all_before t (u ∷ own) rest mine others zero c bc inside is = mine.0
all_before t (u ∷ own) rest mine others (suc b) zero bc inside is = absurd (omega (arith, bc))
all_before t (u ∷ own) rest mine others (suc b) (suc c) bc inside is =
    all_before t own rest mine.1 others b c (omega (arith, bc)) (omega (arith, inside)) is

joined : (t : Ticket) (own rest : List Ticket) → AllByRecursion (λ u. u ≡ t) own → AllByRecursion (λ u. t ≢ u) rest
    → NoOtherBetween rest → NoOtherBetween (own ++ rest)
joined t [] rest mine others k a b c ab bc inside is = k a b c ab bc inside is
joined t (u ∷ own) rest mine others k a zero c ab bc inside is = absurd (omega (arith, ab))
joined t (u ∷ own) rest mine others k a b zero ab bc inside is = absurd (omega (arith, bc))
joined t (u ∷ own) rest mine others k zero (suc b) (suc c) ab bc inside is =
    all_before t own rest mine.1 others b c (omega (arith, bc)) (omega (arith, inside)) (sym is ∙ mine.0) ∙ sym mine.0
joined t (u ∷ own) rest mine others k (suc a) (suc b) (suc c) ab bc inside is =
    joined t own rest mine.1 others k a b c (omega (arith, ab)) (omega (arith, bc)) (omega (arith, inside)) is

own_entries : (t : Ticket) (j : List Entry) → AllByRecursion (λ u. u ≡ t) (tickets_of (entries_of t j))
own_entries t [] = tt
own_entries t (x ∷ j) = by_case (same t x.ticket) refl (own_entries t j)
  where
    mine : same t x.ticket ≡ true → x.ticket ≡ t
    mine is = ⊎_elim (λ (here : t ≡ x.ticket). sym here) (λ (other : same t x.ticket ≡ false). absurd (cc (is, other))) (ticket_cases t x.ticket)

    by_case : (b : Bool) → same t x.ticket ≡ b → AllByRecursion (λ u. u ≡ t) (tickets_of (entries_of t j))
        → AllByRecursion (λ u. u ≡ t) (tickets_of (if b then x ∷ entries_of t j else entries_of t j))
    by_case true is rest = (mine is, rest)
    by_case false is rest = rest

module _ (j : List Entry) where
  -- the journal's entries of each of these tickets
  abbrev along : List Ticket → List Entry
  along ts = flat_map (λ t. entries_of t j) ts

  along_more : (t : Ticket) (ts : List Ticket)
      → tickets_of (along (t ∷ ts)) ≡ tickets_of (entries_of t j) ++ tickets_of (along ts)
  along_more t ts = map-append (λ (e : Entry). e.ticket) (entries_of t j) (along ts)

  of_others : (t : Ticket) (ts : List Ticket) → AllByRecursion (λ u. t ≢ u) ts
      → AllByRecursion (λ u. t ≢ u) (tickets_of (along ts))
  of_others t [] others = tt
  of_others t (u ∷ ts) others =
      subst (AllByRecursion (λ v. t ≢ v)) (sym (along_more u ts))
      (each_join (λ v. t ≢ v) (tickets_of (entries_of u j)) (tickets_of (along ts))
      (each_map {P = λ v. v ≡ u} {Q = λ v. t ≢ v} (λ v is same. others.0 (same ∙ is)) (tickets_of (entries_of u j))
      (own_entries u j))
      (of_others t ts others.1))

  none_between : (ts : List Ticket) → Apart ts → NoOtherBetween (tickets_of (along ts))
  none_between [] apart = λ a b c ab bc inside is. absurd (omega (arith, inside))
  none_between (t ∷ ts) apart =
      subst NoOtherBetween (sym (along_more t ts))
      (joined t (tickets_of (entries_of t j)) (tickets_of (along ts)) (own_entries t j) (of_others t ts apart.0)
      (none_between ts apart.1))

undisturbed_object : (p : ProgramShape) (r : Played) (waits : ℕ → Ticket → List Request) → IsIsolated p r waits
    → (h : ℕ) → h < length p.objects → IsUndisturbed p r h
unfolding IsIsolated
undisturbed_object p r waits isolated h within =
    let x = isolated.objects h within in
    record {
      honest = x.honest;
      replayed = x.replayed;
      own = λ i less. (map command_event (waits h (ticket_at r i)), sym (x.parts i less));
      alone = subst (λ k. NoOtherBetween (tickets_of k)) (sym x.order)
          (none_between (journal_of r h) r.order (legal_apart p (λ _. 0) r.order isolated.legal));
    }

pub undisturbed : BlocksAreUndisturbed
undisturbed p sound way r run h within =
    let x = all_isolated p sound way r run in undisturbed_object p r x.0 x.1 h within
