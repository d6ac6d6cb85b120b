-- What a new desk has for each client and each handler of a program: a share of which nothing is booked, and a queue of
-- which nothing is taken. The desk has eight places of each; those of the clients and handlers that the program has are
-- filled, by their numbers.
use Rattle.std.proofs.Common.{◌≡◌, ℕ, ◌<◌, ◌≤◌, true, nat_lt, if◌then◌else◌, [], map, length, get_or, Some, None, ap, ◌∙◌, arith, rules, tests}
use Rattle.qs_run.proofs.Names.{ProgramShape, get_or-map, most_clients, most_handlers, most_objects, places, share_at, tickets_at}

place_at : (i : ℕ) → i < most_handlers → get_or places i 0 ≡ i
place_at v less = grind arith

at_place : {X : Type 0} (f : ℕ → X) (i : ℕ) (d : X) → i < most_handlers → get_or (map f places) i d ≡ f i
at_place f i d less = get_or-map f places i 0 d less ∙ ap f (place_at i less)

passes : (i n : ℕ) → i < n → nat_lt i n ≡ true
passes i n less = search (rules, tests)

pub share_there : (p : ProgramShape) (c : ℕ) → length p.clients ≤ most_clients → c < length p.clients
    → get_or (map (share_at p) places) c None ≡ Some (record { client = c; count = 0 })
share_there p c few less =
    at_place (share_at p) c None (omega (arith, few, less))
    ∙ ap (λ b. if b then Some (record { client = c; count = 0 }) else None) (passes c (length p.clients) less)

pub tickets_there : (p : ProgramShape) (h : ℕ) → length p.objects ≤ most_objects → h < length p.objects
    → get_or (map (tickets_at p) places) h None ≡ Some (record { handler = h; taken = [] })
tickets_there p h few less =
    at_place (tickets_at p) h None (omega (arith, few, less))
    ∙ ap (λ b. if b then Some (record { handler = h; taken = [] }) else None) (passes h (length p.objects) less)
