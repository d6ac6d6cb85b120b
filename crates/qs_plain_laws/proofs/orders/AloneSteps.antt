-- Steps of the plain rules, one after another, that lead from a state to one with a property; and what a client in its
-- block, alone, has before it. The proof that each complete order is reached is put together from these: a step of the
-- client, or of a handler, changes one client, one queue or both, and keeps all others as they are.
use Rattle.std.proofs.Common.{◌≡◌, ◌<◌, ◌==◌, ℕ, suc, true, if◌then◌else◌, false, List, [], ◌∷◌, ◌++◌, Some, refl, sym, subst, length, get_or-set_same, get_or-set_other, length-set, arith, rules}
use Rattle.qs_played.proofs.Names.{set, HeldState, run_one, Ticket, and_cases, num_cases, ProgramShape, reserves, AsksOnly, put, value_of, put_here, put_there, all_named, names_actor, or_stay}
use Rattle.qs_played.specs.declared.schedule.actor.Actor.{Actor}
use Rattle.qs_meaning.specs.audit.Interaction.{Interaction, Done, Call, Query}
use Rattle.qs_plain_laws.proofs.Names.{apart, plays, IsOut}
use Rattle.qs_plain_laws.specs.audit.Plain.{Client, Handler, Plain, Private, StageOfClient, begun_blocks, client_at, handler_at, step, within}

-- some actors of the program, by whose steps a state with a property comes
abbrev pub Reaches : ProgramShape → Plain → (Plain → Type 0) → Type 0
Reaches p s Q = (actors : List Actor) × (all_named p actors ≡ true) × Q (plays p actors s)

pub stay : (p : ProgramShape) (s : Plain) (Q : Plain → Type 0) → Q s → Reaches p s Q
stay p s Q q = ([], refl, q)

pub move : (p : ProgramShape) (s : Plain) (a : Actor) (n : Plain) (Q : Plain → Type 0) → names_actor p a ≡ true → step p s a ≡ Some n
    → Reaches p n Q → Reaches p s Q
move p s a n Q named e (actors, all, q) =
    (a ∷ actors, rw named all, subst (λ o. Q (plays p actors (or_stay s o))) (sym e) q)

plays_append : (p : ProgramShape) (xs ys : List Actor) (s : Plain) → plays p (xs ++ ys) s ≡ plays p ys (plays p xs s)
plays_append p [] ys s = refl
plays_append p (a ∷ xs) ys s = plays_append p xs ys (or_stay s (step p s a))

pub named_append : (p : ProgramShape) (xs ys : List Actor) → all_named p xs ≡ true → all_named p ys ≡ true → all_named p (xs ++ ys) ≡ true
named_append p [] ys x y = y
named_append p (a ∷ xs) ys x y =
    let both = and_cases (names_actor p a) (all_named p xs) x in
    rw both.0 (named_append p xs ys both.1 y)

pub moves : (p : ProgramShape) (s : Plain) (xs : List Actor) (Q : Plain → Type 0) → all_named p xs ≡ true → Reaches p (plays p xs s) Q → Reaches p s Q
moves p s xs Q named (actors, all, q) = (xs ++ actors, named_append p xs actors named all, subst Q (sym (plays_append p xs actors s)) q)

pub onward : (p : ProgramShape) (s : Plain) (Q R : Plain → Type 0) → Reaches p s Q → ((n : Plain) → Q n → Reaches p n R) → Reaches p s R
onward p s Q R (xs, x, q) next =
    let rest = next (plays p xs s) q in
    (xs ++ rest.0, named_append p xs rest.0 x rest.1, subst R (sym (plays_append p xs rest.0 s)) rest.2)

-- A client stands in its block at a stage, and all others are between two blocks: the order so far, how many blocks
-- each client has begun, and what each handler has in its queue.
pub record IsAlone (p : ProgramShape) (so_far : List Ticket) (blocks : ℕ → ℕ) (t : Ticket) (queue : ℕ → List Private) (at : StageOfClient) (s : Plain) : Type 0 where
  pub order : s.order ≡ so_far
  pub clients : length s.clients ≡ length p.clients
  pub handlers : length s.handlers ≡ length p.objects
  pub stage : (client_at s t.client).stage ≡ at
  pub begun : (c : ℕ) → begun_blocks (client_at s c) ≡ blocks c
  pub others : (c : ℕ) → (t.client == c) ≡ false → IsOut (client_at s c).stage
  pub queues : (h : ℕ) → (handler_at s.handlers h).queues ≡ queue h

-- the queues of the block's handlers, where each has served all so far
abbrev pub served_of : ProgramShape → Ticket → ℕ → List Private
served_of p t h = if reserves p t h then record { ticket = t; items = [] } ∷ [] else []

-- A client is in its block, alone, and each handler has served all so far.
abbrev pub IsWithin : ProgramShape → List Ticket → (ℕ → ℕ) → Ticket → Plain → Type 0
IsWithin p order begun t s = (tree : Interaction) × AsksOnly (reserves p t) tree × IsAlone p order begun t (served_of p t) (within tree) s

-- what the handlers hold
abbrev pub helds : Plain → ℕ → HeldState
helds s g = (handler_at s.handlers g).held

-- how many turns are left of a ticket's block, each request done at once
abbrev pub turns_left : Ticket → Interaction → (ℕ → HeldState) → ℕ
turns_left t (Done l) hs = 1
turns_left t (Call r next) hs = suc (turns_left t next (put hs r.object (run_one (hs r.object) t r).0))
turns_left t (Query r next) hs =
    let o = run_one (hs r.object) t r in suc (turns_left t (next (value_of o.1)) (put hs r.object o.0))

abbrev pub left_at : Ticket → StageOfClient → (ℕ → HeldState) → ℕ
left_at t (within rest) hs = turns_left t rest hs
left_at t _ hs = 0

abbrev pub left_of : Ticket → Plain → ℕ
left_of t s = left_at t (client_at s t.client).stage (helds s)

-- the queues, where one handler was changed
pub queue_set : (hs : List Handler) (h : ℕ) (x : Handler) (queue : ℕ → List Private) → h < length hs
    → ((g : ℕ) → (handler_at hs g).queues ≡ queue g) → (g : ℕ) → (handler_at (set hs h x) g).queues ≡ put queue h x.queues g
queue_set hs h x queue inside before g = search (rules, set, get_or-set_same, put_here, get_or-set_other, apart, put_there, num_cases)

-- the same queues by another name
pub requeued : (p : ProgramShape) (order : List Ticket) (begun : ℕ → ℕ) (t : Ticket) (queue other : ℕ → List Private) (stage : StageOfClient) (s : Plain)
    → ((g : ℕ) → queue g ≡ other g) → IsAlone p order begun t queue stage s → IsAlone p order begun t other stage s
requeued p order begun t queue other stage s e now = search rules

-- the client has moved, and its handlers may have
pub client_moved : (p : ProgramShape) (order : List Ticket) (begun : ℕ → ℕ) (t : Ticket) (queue later : ℕ → List Private) (stage : StageOfClient) (s : Plain)
    (it : Client) (hs : List Handler) → t.client < length p.clients → IsAlone p order begun t queue stage s
    → it.entries ≡ (client_at s t.client).entries → length hs ≡ length p.objects → ((h : ℕ) → (handler_at hs h).queues ≡ later h)
    → IsAlone p order begun t later it.stage (record { order = s.order; clients = set s.clients t.client it; handlers = hs })
client_moved p order begun t queue later stage s it hs less now entries long queues = grind (arith, length-set, set, num_cases, get_or-set_same, get_or-set_other, apart)

-- a handler has moved
pub handler_moved : (p : ProgramShape) (order : List Ticket) (begun : ℕ → ℕ) (t : Ticket) (queue : ℕ → List Private) (stage : StageOfClient) (s : Plain)
    (h : ℕ) (x : Handler) → h < length p.objects → IsAlone p order begun t queue stage s
    → IsAlone p order begun t (put queue h x.queues) stage (record s { handlers = set s.handlers h x })
handler_moved p order begun t queue stage s h x less now = search (rules, length-set, queue_set)
