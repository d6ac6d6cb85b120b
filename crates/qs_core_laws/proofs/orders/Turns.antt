-- A client in its block, alone, and what a turn of it changes: a step of the client leaves one corner at which the
-- handler has something to do, and two steps of each handler lead every corner to one where the handler waits for the
-- client again. Here are what holds between the steps (`IsWithin`), the steps of handlers, and what is to be known of a
-- client's step for it.
use Rattle.std.proofs.Common.{◌≡◌, ◌<◌, ◌≤◌, ◌∙◌, ◌==◌, ◌+◌, ◌⊎◌, ◌∷◌, [], ℕ, zero, suc, true, false, if◌then◌else◌, is_some, List, inl, inr, sym, ap, subst, length, ⊎_elim, arith, rules}
use Rattle.qs_core_laws.proofs.Names.{nat_tests, ClientCode, spare_room, Client, is_between, plays_by-append, Core, core_step, core_plays, IsLaneClear, two_of_each}
use Rattle.qs_played.proofs.Names.{Ticket, num_cases, ProgramShape, reserves, put, put_here, put_there, or_stay}
use Rattle.qs_played.specs.declared.schedule.actor.Actor.{Actor}
use Rattle.qs_played.specs.declared.schedule.actor.Actor.TheVariants as actor
use Rattle.qs_core_laws.proofs.protocol.ClientInvariants.{objects_of_block}
use Rattle.qs_core_laws.proofs.orders.Settling.{Gone, IsLeft, Stance, stance_at}
use Rattle.qs_core_laws.proofs.orders.Corners.{Due, HasSameLanes, IsChangedAt, IsServedAt, Waits, corner, corner_of, once, once_spare, once_stance, serve_once, spare_of, stance_of, twice_waits}

-- how a client stands to an object in the block of this ticket
abbrev pub stance_in : ProgramShape → Ticket → Client → ℕ → Stance
stance_in p t m h = if reserves p t h then stance_at m m.stage h else Gone

-- how many of its chunks for an object are open
abbrev pub chunks_open : Client → ℕ → ℕ
chunks_open m h = if is_some (m.chunk h) then 1 else 0

-- A corner as the client stands to the object; the handler waits there, or its number is not below this one.
pub record HasCorner (p : ProgramShape) (t : Ticket) (from : ℕ) (s : Core) (h : ℕ) : Type 0 where
  pub due : Due
  pub is : corner s t.client h ≡ corner_of t due
  pub stance : stance_of due ≡ stance_in p t (s.client t.client) h
  pub spare : spare_of due + chunks_open (s.client t.client) h ≡ spare_room
  pub waits : Waits due ⊎ ((from ≤ h) × (h < length p.objects))

-- a client that is not in a block, and its lanes
pub record IsAside (s : Core) (d : ℕ) : Type 0 where
  pub stage : is_between (s.client d).stage ≡ true
  pub lanes : (h : ℕ) → IsLaneClear s d h

-- The client of this ticket is in its block, and all others are between two blocks: the order so far, and how many
-- blocks each client has begun. The handlers below a number wait, and the block is over within n steps of its client.
pub record IsWithin (p : ProgramShape) (so_far : List Ticket) (blocks : ℕ → ℕ) (t : Ticket) (from n : ℕ) (s : Core) : Type 0 where
  pub order : s.order ≡ so_far
  pub begun : (d : ℕ) → (s.client d).begun ≡ blocks d
  pub others : (d : ℕ) → (t.client == d) ≡ false → IsAside s d
  pub corners : (h : ℕ) → HasCorner p t from s h
  pub left : IsLeft (length (objects_of_block p t)) n (s.client t.client) (s.client t.client).stage

-- a client that did not step is still not in a block
still_aside : (s n : Core) (d : ℕ) → n.client d ≡ s.client d → HasSameLanes s n d → IsAside s d → IsAside n d
still_aside s n d client lanes aside = search rules

module _ (p : ProgramShape) (so_far : List Ticket) (blocks : ℕ → ℕ) (t : Ticket) (code : ℕ → ClientCode) (size : ℕ) where
  -- the state after one step of an actor, or without it
  abbrev pub then_by : Core → Actor → Core
  then_by s a = or_stay s (core_step code size s a)

  -- two steps of the next handler
  pub serve_twice : (from n : ℕ) (s : Core) → from < length p.objects → IsWithin p so_far blocks t from n s
      → IsWithin p so_far blocks t (suc from) n (then_by (then_by s (actor.Handler from)) (actor.Handler from))
  serve_twice from n s less now =
      record {
        order = second.order ∙ (first.order ∙ now.order);
        begun = λ d. ap (λ (f : ℕ → Client). (f d).begun) clients ∙ now.begun d;
        others = λ d other. still_aside s last d (ap (λ (f : ℕ → Client). f d) clients) (record {
          down = λ g. (second.changed.lanes d other).down g ∙ (first.changed.lanes d other).down g;
          up = λ g. (second.changed.lanes d other).up g ∙ (first.changed.lanes d other).up g;
          spare = λ g. (second.changed.lanes d other).spare g ∙ (first.changed.lanes d other).spare g;
        }) (now.others d other);
        corners = λ h. ⊎_elim (λ (is : from ≡ h). subst (HasCorner p t (suc from) last) is here) (λ (other : (from == h) ≡ false). there h other) (num_cases from h);
        left = subst (λ (f : ℕ → Client). IsLeft (length (objects_of_block p t)) n (f t.client) (f t.client).stage) (sym clients) now.left;
      }
    where
      had : HasCorner p t from s from
      had = now.corners from

      mid : Core
      mid = then_by s (actor.Handler from)

      last : Core
      last = then_by mid (actor.Handler from)

      first : IsServedAt t.client from (corner_of t (once t had.due)) s mid
      first = serve_once code size t s from had.due had.is

      second : IsServedAt t.client from (corner_of t (once t (once t had.due))) mid last
      second = serve_once code size t mid from (once t had.due) first.changed.here

      clients : last.client ≡ s.client
      clients = second.client ∙ first.client

      mine : last.client t.client ≡ s.client t.client
      mine = ap (λ (f : ℕ → Client). f t.client) clients

      here : HasCorner p t (suc from) last from
      here = search (rules, once, had, second, once_stance, mine, once_spare, spare_of, twice_waits)

      there : (h : ℕ) → (from == h) ≡ false → HasCorner p t (suc from) last h
      there h other =
          let at = now.corners h in
          record {
            due = at.due;
            is = second.changed.elsewhere h other ∙ (first.changed.elsewhere h other ∙ at.is);
            stance = at.stance ∙ sym (ap (λ m. stance_in p t m h) mine);
            spare = ap (λ m. spare_of at.due + chunks_open m h) mine ∙ at.spare;
            waits = ⊎_elim (λ (w : Waits at.due). inl w) (λ (l : (from ≤ h) × (h < length p.objects)). inr (later h other l.0, l.1)) at.waits;
          }
        where
          later : (h : ℕ) → (from == h) ≡ false → from ≤ h → suc from ≤ h
          later h other le = grind (arith, nat_tests, other, le)

  -- two steps of each of the first handlers
  pub serve_each : (many n : ℕ) (s : Core) → many ≤ length p.objects → IsWithin p so_far blocks t 0 n s
      → IsWithin p so_far blocks t many n (core_plays code size (two_of_each many) s)
  serve_each zero n s le now = now
  serve_each (suc many) n s le now =
      subst (IsWithin p so_far blocks t (suc many) n)
      (sym (plays_by-append (core_step code size) (two_of_each many) (actor.Handler many ∷ actor.Handler many ∷ []) s))
      (serve_twice many n (core_plays code size (two_of_each many) s) le (serve_each many n s (omega (arith, le)) now))

  -- What is to be known of a step of the client at a handler: what it leaves at that corner, and that it keeps all
  -- others.
  pub record IsActAt (h k : ℕ) (due : Due) (s : Core) (m : Client) (n : Core) : Type 0 where
    pub order : n.order ≡ s.order
    pub client : n.client ≡ put s.client t.client m
    pub changed : IsChangedAt t.client h (corner_of t due) s n
    pub begun : m.begun ≡ (s.client t.client).begun
    pub inside : h < length p.objects
    pub stance : stance_of due ≡ stance_in p t m h
    pub spare : spare_of due + chunks_open m h ≡ spare_room
    pub stances : (g : ℕ) → (h == g) ≡ false → stance_in p t m g ≡ stance_in p t (s.client t.client) g
    pub chunks : (g : ℕ) → (h == g) ≡ false → is_some (m.chunk g) ≡ is_some ((s.client t.client).chunk g)
    pub left : IsLeft (length (objects_of_block p t)) k m m.stage

  -- the corner of a client and a handler that waits
  pub at_rest : (n h : ℕ) (s : Core) (now : IsWithin p so_far blocks t (length p.objects) n s) → Waits (now.corners h).due
  at_rest n h s now = search rules

  pub act_on : (h n k : ℕ) (due : Due) (s : Core) (m : Client) (later : Core) → IsWithin p so_far blocks t (length p.objects) n s
      → IsActAt h k due s m later → IsWithin p so_far blocks t 0 k later
  act_on h n k due s m later now act = record {
    order = act.order ∙ now.order;
    begun = λ d. ⊎_elim
        (λ (is : t.client ≡ d). subst (λ d. (later.client d).begun ≡ blocks d) is (ap (λ (x : Client). x.begun) mine ∙ (act.begun ∙ now.begun t.client)))
        (λ (other : (t.client == d) ≡ false). ap (λ (x : Client). x.begun) (theirs d other) ∙ now.begun d)
        (num_cases t.client d);
    others = λ d other. still_aside s later d (theirs d other) (act.changed.lanes d other) (now.others d other);
    corners = λ g. ⊎_elim (λ (is : h ≡ g). subst (HasCorner p t 0 later) is here) (λ (other : (h == g) ≡ false). there g other) (num_cases h g);
    left = subst (λ (x : Client). IsLeft (length (objects_of_block p t)) k x x.stage) (sym mine) act.left;
  }
    where
      mine : later.client t.client ≡ m
      mine = ap (λ (f : ℕ → Client). f t.client) act.client ∙ put_here s.client t.client m

      theirs : (d : ℕ) → (t.client == d) ≡ false → later.client d ≡ s.client d
      theirs d other = ap (λ (f : ℕ → Client). f d) act.client ∙ put_there s.client t.client m d other

      here : HasCorner p t 0 later h
      here = search (rules, mine, spare_of)

      there : (g : ℕ) → (h == g) ≡ false → HasCorner p t 0 later g
      there g other =
          let at = now.corners g in
          record {
            due = at.due;
            is = act.changed.elsewhere g other ∙ at.is;
            stance = at.stance ∙ (sym (act.stances g other) ∙ sym (ap (λ x. stance_in p t x g) mine));
            spare = ap (λ x. spare_of at.due + chunks_open x g) mine ∙ (ap (λ b. spare_of at.due + (if b then 1 else 0)) (act.chunks g other) ∙ at.spare);
            waits = inl (at_rest n g s now);
          }
