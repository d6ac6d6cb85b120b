-- Where nobody is in a block, a client with a block left reserves in one step, and then has this block alone: each
-- handler of its list has the ticket in its queue, and the client has nothing in hand. Where such a block is over,
-- again nobody is in a block.
use Rattle.std.proofs.Common.{◌≡◌, ◌<◌, ◌∙◌, ◌==◌, ◌+◌, ◌*◌, ◌++◌, ◌∷◌, [], ℕ, zero, suc, Bool, true, false, true≢false, if◌then◌else◌, is_some, List, Some, inl, inr, refl, sym, ap, subst, length, replicate, ⊎_elim, arith, rules}
use Rattle.qs_played.proofs.Names.{lt-ltb, HeldState, Ticket, num_cases, ticket_path, ProgramShape, blocks_of, is_in, IsSound, Locals, reserves, put, put_here, put_there, ticket, or_stay}
use Rattle.qs_graph.specs.audit.Steps.{limit}
use Rattle.qs_graph.specs.audit.Walk.{entry}
use Rattle.qs_core_laws.proofs.Names.{Mode, ClientCode, code_at, AreCodes, longest, Client, ClientStage, Settlement, begin, between, is_between, synced_block, reserved_inside, HasNone, Core, core_step, put_ticket, settings_of, IsCoreQuiet, IsLaneClear}
use Rattle.qs_played.specs.declared.schedule.actor.Actor.TheVariants as actor
use Rattle.qs_core_laws.proofs.protocol.ClientInvariants.{PlaceOk, objects_of_block}
use Rattle.qs_core_laws.proofs.protocol.ProgramTrees.{blocks_are, reserved_is}
use Rattle.qs_core_laws.proofs.CoreSteps.{HasInvariant}
use Rattle.qs_core_laws.proofs.orders.TreeDepths.{walk_depth}
use Rattle.qs_core_laws.proofs.orders.Settling.{Gone, IsLeft, IsSettled, hand, settled, stance_at}
use Rattle.qs_core_laws.proofs.orders.Corners.{Booked, Corner, Free, corner, corner_of, spare_of}
use Rattle.qs_core_laws.proofs.orders.Turns.{HasCorner, IsWithin, at_rest, chunks_open, stance_in}
use Rattle.qs_core_laws.proofs.orders.ClientTurns.{free_of, nothing_open}

locals_of : (g : ClientStage) → is_between g ≡ true → (l : Locals) × (g ≡ between l)
locals_of (between l) e = (l, refl)
locals_of _ e = absurd (true≢false (sym e))

-- how many steps of its client a block takes at most
abbrev pub most_turns : ProgramShape → Ticket → ℕ
most_turns p t = 3 * limit + 2 * length (objects_of_block p t) + 2

module _ (p : ProgramShape) (sound : IsSound p) (mode : Mode) (code : ℕ → ClientCode) (codes : AreCodes p mode code) (size : ℕ) (so_far : List Ticket) (counts : ℕ → ℕ) (t : Ticket)
    (index : t.index ≡ counts t.client) (some : t.index < blocks_of p t.client) (s : Core) (kept : HasInvariant p sound mode code codes size s) (quiet : IsCoreQuiet so_far counts s) where
  abbrev m : Client
  m = s.client t.client

  abbrev names : List ℕ
  names = objects_of_block p t

  -- the state once the client has reserved these objects
  abbrev comes_to : Locals → List ℕ → Settlement
  comes_to l ns = begin (settings_of code size t.client) t ns m (synced_block code t l)

  abbrev booked : Locals → List ℕ → Core
  booked l ns = record {
    order = s.order ++ t ∷ [];
    client = put s.client t.client (comes_to l ns).client;
    syncs = s.syncs;
    sync_counts = s.sync_counts;
    down = s.down;
    up = s.up;
    spare = s.spare;
    handler = s.handler;
    tickets = λ h. if is_in ns h then s.tickets h ++ t ∷ [] else s.tickets h;
    entry = put_ticket s.entry t l;
    trace = put_ticket s.trace t (comes_to l ns).events;
  }

  same_ticket : ticket t.client (s.client t.client).begun ≡ t
  same_ticket = ticket_path refl (quiet.begun t.client ∙ sym index)

  reserve_step : (l : Locals) → m.stage ≡ between l → core_step code size s (actor.Client t.client) ≡ Some (booked l names)
  reserve_step l at = search (rules, same_ticket, reserved_is, blocks_are, lt-ltb)

  -- a client that is between two blocks has nothing in hand
  nothing_in_hand : (l : Locals) → m.stage ≡ between l → (h : ℕ) → HasNone m h
  nothing_in_hand l at h = by_begun m.begun refl
    where
      by_begun : (k : ℕ) → m.begun ≡ k → HasNone m h
      by_begun zero e = (kept.2.idle t.client e).1 h
      by_begun (suc k) e =
          let u = ticket t.client k in
          (subst (PlaceOk p u (kept.0.sent u) (kept.0.got u) m (kept.0.block_record u)) at (kept.2.places t.client k e)).empty h refl

  entered : (l : Locals) → m.stage ≡ between l → IsWithin p (so_far ++ t ∷ []) (put counts t.client (suc (counts t.client))) t 0 (most_turns p t) (booked l names)
  entered l at = record {
    order = ap (λ o. o ++ t ∷ []) quiet.order;
    begun = λ d. ⊎_elim
        (λ (is : t.client ≡ d). subst (λ d. (later.client d).begun ≡ put counts t.client (suc (counts t.client)) d) is
        (ap (λ (x : Client). x.begun) mine ∙ (done.begun ∙ (ap suc (quiet.begun t.client) ∙ sym (put_here counts t.client (suc (counts t.client)))))))
        (λ (other : (t.client == d) ≡ false).
        ap (λ (x : Client). x.begun) (theirs d other) ∙ (quiet.begun d ∙ sym (put_there counts t.client (suc (counts t.client)) d other)))
        (num_cases t.client d);
    others = λ d other. record {
      stage = ap (λ (x : Client). is_between x.stage) (theirs d other) ∙ quiet.stages d;
      lanes = λ h. record { down = (quiet.lanes d h).down; up = (quiet.lanes d h).up; spare = (quiet.lanes d h).spare };
    };
    corners = λ h. by_list h (reserves p t h) refl;
    left = subst (λ (x : Client). IsLeft (length names) (most_turns p t) x x.stage) (sym mine) done.left;
  }
    where
      later : Core
      later = booked l names

      r : Client
      r = (comes_to l names).client

      done : IsSettled names (most_turns p t) (record { begun = suc m.begun; stage = m.stage; held = m.held; chunk = m.chunk }) r
      done = settled (settings_of code size t.client) t names limit (synced_block code t l) (walk_depth (code_at (code t.client) t.index).graph limit (entry l (replicate (longest (code t.client).blocks) 0))) (record { begun = suc m.begun; stage = m.stage; held = m.held; chunk = m.chunk })

      mine : later.client t.client ≡ r
      mine = put_here s.client t.client r

      theirs : (d : ℕ) → (t.client == d) ≡ false → later.client d ≡ s.client d
      theirs d other = put_there s.client t.client r d other

      closed : (h : ℕ) → 4 + chunks_open (later.client t.client) h ≡ 4
      closed h =
          let none : is_some (r.chunk h) ≡ false = done.chunks h ∙ ap is_some (nothing_in_hand l at h).1 in
          ap (λ (x : Client). 4 + chunks_open x h) mine ∙ ap (λ b. 4 + (if b then 1 else 0)) none

      by_list : (h : ℕ) (b : Bool) → reserves p t h ≡ b → HasCorner p t 0 later h
      by_list h true listed = record {
        due = Booked (quiet.handlers h).0 4;
        is = λ k. record { handler = (quiet.handlers h).1 k; tickets = in_queue k; down = (quiet.lanes t.client h).down k; up = (quiet.lanes t.client h).up k; spare = (quiet.lanes t.client h).spare k };
        stance = sym (ap (λ (x : Client). stance_in p t x h) mine ∙ (ap (λ b. if b then stance_at r r.stage h else Gone) listed
            ∙ (done.stance h listed ∙ ap hand (done.held h ∙ ap is_some (nothing_in_hand l at h).0))));
        spare = closed h;
        waits = inr (omega arith, reserved_inside p sound t h listed);
      }
        where
          in_queue : (if is_in names h then s.tickets h ++ t ∷ [] else s.tickets h) ≡ t ∷ []
          in_queue = ap (λ b. if b then s.tickets h ++ t ∷ [] else s.tickets h) listed ∙ ap (λ ts. ts ++ t ∷ []) (quiet.tickets h)
      by_list h false unlisted = record {
        due = Free (quiet.handlers h).0 4;
        is = λ k. record { handler = (quiet.handlers h).1 k; tickets = not_in_queue k; down = (quiet.lanes t.client h).down k; up = (quiet.lanes t.client h).up k; spare = (quiet.lanes t.client h).spare k };
        stance = sym (ap (λ (x : Client). stance_in p t x h) mine ∙ ap (λ b. if b then stance_at r r.stage h else Gone) unlisted);
        spare = closed h;
        waits = inl tt;
      }
        where
          not_in_queue : (if is_in names h then s.tickets h ++ t ∷ [] else s.tickets h) ≡ []
          not_in_queue = ap (λ b. if b then s.tickets h ++ t ∷ [] else s.tickets h) unlisted ∙ quiet.tickets h

  -- in one step the client comes into its block
  pub comes_in : IsWithin p (so_far ++ t ∷ []) (put counts t.client (suc (counts t.client))) t 0 (most_turns p t) (or_stay s (core_step code size s (actor.Client t.client)))
  comes_in =
      let had = locals_of m.stage (quiet.stages t.client) in
      subst (λ o. IsWithin p (so_far ++ t ∷ []) (put counts t.client (suc (counts t.client))) t 0 (most_turns p t) (or_stay s o)) (sym (reserve_step had.0 had.1)) (entered had.0 had.1)

module _ (p : ProgramShape) (sound : IsSound p) (mode : Mode) (code : ℕ → ClientCode) (codes : AreCodes p mode code) (size : ℕ) (so_far : List Ticket) (counts : ℕ → ℕ) (t : Ticket)
    (latest : counts t.client ≡ suc t.index) (n : ℕ) (s : Core) (now : IsWithin p so_far counts t (length p.objects) n s) (kept : HasInvariant p sound mode code codes size s) where
  -- where the client is between two blocks, nobody is in a block
  pub block_over : is_between (s.client t.client).stage ≡ true → IsCoreQuiet so_far counts s
  block_over outside = record {
    order = now.order;
    begun = now.begun;
    stages = λ d. ⊎_elim
        (λ (is : t.client ≡ d). subst (λ d. is_between (s.client d).stage ≡ true) is outside)
        (λ (other : (t.client == d) ≡ false). (now.others d other).stage)
        (num_cases t.client d);
    lanes = λ d h. ⊎_elim
        (λ (is : t.client ≡ d). subst (λ d. IsLaneClear s d h) is (record {
          down = ap (λ (q : Corner). q.down) (at_corner h).2;
          up = ap (λ (q : Corner). q.up) (at_corner h).2;
          spare = ap (λ (q : Corner). q.spare) (at_corner h).2 ∙ (at_corner h).3;
        }))
        (λ (other : (t.client == d) ≡ false). (now.others d other).lanes h)
        (num_cases t.client d);
    handlers = λ h. ((at_corner h).0, ap (λ (q : Corner). q.handler) (at_corner h).2);
    tickets = λ h. ap (λ (q : Corner). q.tickets) (at_corner h).2;
  }
    where
      gone_at : (g : ClientStage) → is_between g ≡ true → (h : ℕ) → stance_at (s.client t.client) g h ≡ Gone
      gone_at (between l) e h = refl
      gone_at _ e h = absurd (true≢false (sym e))

      gone_in : (h : ℕ) (b : Bool) → (if b then stance_at (s.client t.client) (s.client t.client).stage h else Gone) ≡ Gone
      gone_in h true = gone_at (s.client t.client).stage outside h
      gone_in h false = refl

      at_corner : (h : ℕ) → (x : HeldState) × (k : ℕ) × (corner s t.client h ≡ corner_of t (Free x k)) × (k ≡ 4)
      at_corner h =
          let at = now.corners h in
          let found = free_of at.due (at_rest p so_far counts t code size n h s now) (at.stance ∙ gone_in h (reserves p t h)) in
          let none = nothing_open p sound mode code codes size so_far counts t latest n s now kept outside h in
          let few : spare_of at.due + chunks_open (s.client t.client) h ≡ 4 = at.spare in
          let closed : found.1 + 0 ≡ 4 = (λ i. spare_of (sym found.2 i) + (if is_some (sym none i) then 1 else 0)) ∙ few in
          (found.0, found.1, at.is ∙ ap (corner_of t) found.2, omega (arith, closed))
