-- The order of reservations is legal after every list of actors, and each of its tickets names a block that its client
-- has begun. The contract of `play` promises it, and what is shown of a ticket is found by it. Over the plain rules
-- alone it is kept that each client has begun as many blocks as it has tickets in the order, by cases on the step and
-- induction on the actors.
use Rattle.std.proofs.Common.{◌≡◌, ◌<◌, ℕ, zero, suc, ◌==◌, Bool, true, false, if◌then◌else◌, nat_lt, List, [], ◌∷◌, ◌++◌, map, length, get_or, Some, None, refl, ap, sym, ◌∙◌, arith, add-one, get_or-set_same, get_or-set_other, rules}
use Rattle.qs_played.proofs.Names.{set, map-set_same, length-append, length-map, map-set, range_with_len, Option, ℤ, Ticket, Request, ProgramShape, blocks_of, LegalFrom, IsLegal, put, or_stay}
use Rattle.qs_played.specs.declared.schedule.actor.Actor.{Actor}
use Rattle.qs_meaning.specs.audit.Interaction.{Interaction}
use Rattle.qs_plain_laws.proofs.Names.{apart, counts_after, legal-more, counts-more, counts_grow, plays, QueueItem}
use Rattle.qs_played.specs.declared.schedule.actor.Actor.TheVariants as actor
use Rattle.qs_plain_laws.specs.audit.Plain.{Plain, Client, Handler, Private, StageOfClient, out, within, waiting, begin, begun_blocks, client_at, handler_at, client_step, moves_on, separate, item_step, queue_step, after_reply, step, fresh_client, no_client}

pub record IsOrdered (p : ProgramShape) (s : Plain) : Type 0 where
  pub legal : IsLegal p s.order
  pub counts : (c : ℕ) → counts_after (λ _. 0) s.order c ≡ get_or (map begun_blocks s.clients) c 0

get_or-put : (xs : List ℕ) (c y k : ℕ) → c < length xs → get_or (set xs c y) k 0 ≡ put (λ m. get_or xs m 0) c y k
get_or-put xs c y k less = search (rules, set, get_or-set_same, get_or-set_other, apart)

get_or-begun : (cs : List Client) (c : ℕ) → get_or (map begun_blocks cs) c 0 ≡ begun_blocks (get_or cs c no_client)
get_or-begun (it ∷ cs) (suc c) = get_or-begun cs c
get_or-begun _ _ = refl

heard : (r : Request) (v : Option ℤ) (it : Client) → begun_blocks (after_reply it r v) ≡ begun_blocks it
heard r v it = search rules

module _ (p : ProgramShape) (s : Plain) (o : IsOrdered p s) where
  -- the order is as it was, and so is how many blocks were begun
  same_order : (t : Plain) → t.order ≡ s.order → map begun_blocks t.clients ≡ map begun_blocks s.clients → IsOrdered p t
  same_order t order begins = search (rules, counts_after)

  one_set : (c : ℕ) (it : Client) → begun_blocks it ≡ begun_blocks (get_or s.clients c no_client) → map begun_blocks (set s.clients c it) ≡ map begun_blocks s.clients
  one_set c it same = map-set_same begun_blocks s.clients c it no_client same

  module _ (c : ℕ) (less : c < length s.clients) where
    abbrev it : Client
    it = client_at s c

    going : (rest : Interaction) → IsOrdered p (moves_on p s c it rest)
    going v = search (rules, same_order, it, one_set)

    longer : (l : List ℤ) → suc (begun_blocks it) ≡ length (it.entries ++ l ∷ [])
    longer l = sym (length-append it.entries (l ∷ []) ∙ add-one (begun_blocks it))

    starting : (l : List ℤ) (b : Bool) → nat_lt (begun_blocks it) (blocks_of p c) ≡ b → IsOrdered p (or_stay s (if b then Some (separate p s c it l) else None))
    starting l b e = search (rules, legal-more, get_or-begun, counts-more, get_or-put, length-map, set, longer, map-set)

    staged : (g : StageOfClient) → IsOrdered p (or_stay s (client_step p s c it g))
    staged (out l) = starting l (nat_lt (begun_blocks it) (blocks_of p c)) refl
    staged (within rest) = going rest
    staged (waiting next) = o

  module _ (h : ℕ) where
    abbrev handler : Handler
    handler = handler_at s.handlers h

    served : (q : Private) (qs : List Private) (items : List QueueItem) → IsOrdered p (or_stay s (item_step s h handler q qs items))
    served q qs items = search (rules, same_order, one_set, heard)

    from_queues : (qs : List Private) → IsOrdered p (or_stay s (queue_step s h handler qs))
    from_queues v = search (rules, served)

  ordered_next : (a : Actor) → IsOrdered p (or_stay s (step p s a))
  ordered_next (actor.Handler h) = from_queues h (handler_at s.handlers h).queues
  ordered_next (actor.Client c) = by_number (nat_lt c (length s.clients)) refl
    where
      by_number : (b : Bool) → nat_lt c (length s.clients) ≡ b → IsOrdered p (or_stay s (if b then client_step p s c (client_at s c) (client_at s c).stage else None))
      by_number false e = o
      by_number true e = staged c (grind (arith, e)) (client_at s c).stage

pub ordered_plays : (p : ProgramShape) (s : Plain) (actors : List Actor) → IsOrdered p s → IsOrdered p (plays p actors s)
ordered_plays p s [] o = o
ordered_plays p s (a ∷ rest) o = ordered_plays p (or_stay s (step p s a)) rest (ordered_next p s o a)

none_begun : (cs : List ℕ) (c : ℕ) → get_or (map begun_blocks (map fresh_client cs)) c 0 ≡ 0
none_begun (n ∷ cs) (suc c) = none_begun cs c
none_begun _ _ = refl

pub ordered_begin : (p : ProgramShape) → IsOrdered p (begin p)
ordered_begin p = record { legal = tt; counts = λ c. sym (none_begun (range_with_len 0 (length p.clients)) c) }

put_here : (b : ℕ → ℕ) (c y : ℕ) → put b c y c ≡ y
put_here b c y = let same : (c == c) ≡ true = grind arith in ap (λ z. if z then y else b c) same

counted : (p : ProgramShape) (b : ℕ → ℕ) (ts : List Ticket) (i : ℕ) (d : Ticket) → LegalFrom p b ts → i < length ts
    → (get_or ts i d).index < counts_after b ts (get_or ts i d).client
counted p b [] i d legal less = absurd (omega (arith, less))
counted p b (t ∷ ts) zero d legal less = grind (arith, counts_grow, put_here)
counted p b (t ∷ ts) (suc i) d legal less = counted p (put b t.client (suc t.index)) ts i d legal.2 (omega (arith, less))

some_within : (xs : List ℕ) (c : ℕ) → 0 < get_or xs c 0 → c < length xs
some_within [] c some = absurd (omega (arith, some))
some_within (x ∷ xs) zero some = omega arith
some_within (x ∷ xs) (suc c) some = omega (arith, some_within xs c some)

-- each ticket of the order names a block that was begun
pub tickets_begun : (p : ProgramShape) (s : Plain) → IsOrdered p s → (i : ℕ) (d : Ticket) → i < length s.order
    → ((get_or s.order i d).client < length s.clients) × ((get_or s.order i d).index < begun_blocks (client_at s (get_or s.order i d).client))
tickets_begun p s o i d less =
    let t = get_or s.order i d in
    let many = counted p (λ _. 0) s.order i d o.legal less in
    let begins = o.counts t.client in (
      omega (arith, length-map s.clients begun_blocks, some_within (map begun_blocks s.clients) t.client (omega (arith, many, begins))),
      omega (arith, many, begins, get_or-begun s.clients t.client),
    )
