-- What a desk pushes to a handler are the tickets that reserve the handler, in the order of the bookings, and nothing
-- comes after the closing mark. The steps of booking and closing stand on it, and so does what a handler knows of a
-- ticket that it takes. It goes by induction on the history, with cases on whether a ticket reserves the handler.
use Rattle.std.proofs.Common.{◌≡◌, ℕ, suc, ◌<◌, ◌≤◌, Bool, true, false, List, [], ◌∷◌, ◌++◌, cond, map, length, refl, ap, sym, ◌∙◌, subst, arith, append-nil, rules}
use Rattle.std.proofs.lemmas.List.{map-append}
use Rattle.std.proofs.lemmas.List.Elements.{filter-append}
use Rattle.atomic_table.specs.Seated.{TableId}
use Rattle.qs_objects.specs.declared.held.Ticket as held
use Rattle.qs_objects.specs.declared.held.Next.{Next}
use Rattle.qs_objects.specs.declared.held.Next.TheVariants.{Ticket, Closed}
use Rattle.qs_meaning.specs.audit.Following.{reserves}
use Rattle.qs_program.specs.audit.Program.{ProgramShape}
use Rattle.qs_desk.specs.Limits.{all_bookings}
use Rattle.qs_desk.specs.TicketQueues.{QueueView, IsQueueOf, with_ticket, closed_queue, MayGrow, MayClose}
use Rattle.qs_desk.specs.audit.Tickets.{of_handler, pushed_to}
use Rattle.qs_desk.specs.Tickets.{IsFor, AreFor, for_front}

alone : (p : ProgramShape) (h : ℕ) (x : Next) → IsFor p h x → AreFor p h (x ∷ [])
alone p h v is = search rules

-- tickets of the handler, and one thing more
pub for_more : (p : ProgramShape) (h : ℕ) (ts : List held.Ticket) (x : Next) → IsFor p h x → AreFor p h (map Ticket (of_handler p h ts) ++ x ∷ [])
for_more p h [] x is = alone p h x is
for_more p h (u ∷ ts) x is = by (reserves p u h) (for_more p h ts x is) refl
  where
    by : (b : Bool) → AreFor p h (map Ticket (of_handler p h ts) ++ x ∷ []) → reserves p u h ≡ b
        → AreFor p h (map Ticket (cond b (u ∷ of_handler p h ts) (of_handler p h ts)) ++ x ∷ [])
    by true later e = (e, later)
    by false later e = later

pub for_all : (p : ProgramShape) (h : ℕ) (ts : List held.Ticket) (closed : Bool) → AreFor p h (pushed_to p h ts closed)
for_all p h ts true = for_more p h ts Closed tt
for_all p h ts false = subst (AreFor p h) (sym (append-nil (map Ticket (of_handler p h ts)))) (for_front p h (map Ticket (of_handler p h ts)) (Closed ∷ []) (for_more p h ts Closed tt))

-- the last of them is for the handler
pub for_last : (p : ProgramShape) (h : ℕ) (xs : List Next) (x : Next) → AreFor p h (xs ++ x ∷ []) → IsFor p h x
for_last p h [] (Ticket t) is = is.0
for_last p h [] Closed is = tt
for_last p h (Ticket t ∷ xs) x is = for_last p h xs x is.1
for_last p h (Closed ∷ []) x is = absurd is
for_last p h (Closed ∷ y ∷ xs) x is = absurd is

-- nothing comes after the closing mark
pub sealed : (p : ProgramShape) (h : ℕ) (before rest : List Next) → AreFor p h ((before ++ Closed ∷ []) ++ rest) → rest ≡ []
sealed p h [] [] is = refl
sealed p h [] (x ∷ rest) is = absurd is
sealed p h (Ticket t ∷ before) rest is = sealed p h before rest is.1
sealed p h (Closed ∷ []) rest is = absurd is
sealed p h (Closed ∷ y ∷ before) rest is = absurd is

fewer : (p : ProgramShape) (h : ℕ) (ts : List held.Ticket) → length (map Ticket (of_handler p h ts)) ≤ length ts
fewer p h [] = omega arith
fewer p h (u ∷ ts) = by (reserves p u h) (fewer p h ts)
  where
    by : (b : Bool) → length (map Ticket (of_handler p h ts)) ≤ length ts → length (map Ticket (cond b (u ∷ of_handler p h ts) (of_handler p h ts))) ≤ suc (length ts)
    by true later = omega (arith, later)
    by false later = omega (arith, later)

-- what was pushed to a handler of a desk that is not closed
open_is : (p : ProgramShape) (h : ℕ) (ts : List held.Ticket) → pushed_to p h ts false ≡ map Ticket (of_handler p h ts)
open_is p h ts = append-nil (map Ticket (of_handler p h ts))

module _ (p : ProgramShape) (names : List TableId) (history : List held.Ticket) (h : ℕ) (l : QueueView) (is : IsQueueOf p names history false h l) where
  sent : l.sent ≡ map Ticket (of_handler p h history)
  sent = is.3 ∙ open_is p h history

  roomy : length history ≤ all_bookings → length l.sent < l.room
  roomy short = omega (arith, short, ap length sent, fewer p h history, is.1)

  pub may_grow : (t : held.Ticket) → length history ≤ all_bookings → MayGrow p t h l
  may_grow t short = (roomy short, is.2, λ r. subst (λ xs. AreFor p h (xs ++ Ticket t ∷ [])) (sym sent) (for_more p h history (Ticket t) r))

  pub may_close : length history ≤ all_bookings → MayClose l
  may_close short = search (rules, roomy, is, sent, for_more)

  pub is_grown : (t : held.Ticket) → IsQueueOf p names (history ++ t ∷ []) false h (with_ticket p t h l)
  is_grown t = search (rules, map, filter-append, map-append, sent, is, open_is, append-nil)

  pub is_closed : IsQueueOf p names history true h (closed_queue l)
  is_closed = (is.0, is.1, is.2, ap (λ xs. xs ++ Closed ∷ []) sent)
