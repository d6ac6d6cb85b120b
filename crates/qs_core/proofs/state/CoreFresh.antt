-- The lists that `new` builds are the optimised machine before its first step, and all that the code keeps holds of
-- them. The contract of `new` promises both. The machine's fields are compared at each number: within the lists every
-- client and every handler is a fresh one, and beyond them nobody has begun anything.
use Rattle.std.proofs.Common.{◌≡◌, ◌<◌, ◌≤◌, ℕ, zero, suc, ◌+◌, Bool, true, false, nat_lt, List, [], ◌∷◌, map, length, replicate, get_or, sum_by, refl, sym, ap, subst, ◌∙◌, arith, ◌⊎◌, inl, inr, None, rules}
use Rattle.qs_played.proofs.Names.{AllByRecursion, range_with_len, fun_ext, length-map, sum_by-cons, Event, Ticket, ClientShape, ProgramShape, blocks_of, no_client, text_of, IsSound, fresh_rows, no_syncs, fresh_held}
use Rattle.qs_core_laws.proofs.Names.{Mode, BlockCode, ClientCode, IsCodeOf, code_at, no_code, AreCodes, free, ClientModel, fresh_mind, lists_of_code, core_begin}
use Rattle.qs_core_laws.proofs.protocol.ProgramTrees.{reserved_is}
use Rattle.qs_core.specs.parts.CoreClients.{AreStocked, CoreClientState, whole_of}
use Rattle.qs_core.proofs.Names.{CoreHandlerState, handler_with_act, no_core_handler, IsStocked, LaneState, fresh_lane, lane_at}
use Rattle.qs_core.specs.state.CoreState.{AreFreshClients, AreFreshHandlers, CoreState, IsCoreState, IsSide, ClientPart, all_blocks, codes_of, core_of, core_handler_of, no_client_part, client_part_at, client_part, tickets_at}
use Rattle.qs_core.proofs.state.CoreLists.{map_here}

-- the blocks, client by client
sum_listed : {X : Type 0} (f : X → ℕ) (g : ℕ → ℕ) (xs : List X) (d : X) (a : ℕ) → ((i : ℕ) → i < length xs → f (get_or xs i d) ≡ g (a + i)) → sum_by f xs ≡ sum_by g (range_with_len a (length xs))
sum_listed f g [] d a each = refl
sum_listed f g (x ∷ xs) d a each =
    let here : a + 0 ≡ a = omega arith in
    let first : f x ≡ g a = each 0 (omega arith) ∙ ap g here in
    let others = sum_listed f g xs d (a + 1) (λ i less. let place : a + suc i ≡ (a + 1) + i = omega arith in each (suc i) (omega arith) ∙ ap g place) in
    rw (sum_by-cons f x xs, sum_by-cons g a (range_with_len (a + 1) (length xs))) (omega (arith, first, others))

pub blocks_listed : (p : ProgramShape) → sum_by (λ (c : ClientShape). length c.blocks) p.clients ≡ all_blocks p
blocks_listed p = sum_listed (λ (c : ClientShape). length c.blocks) (blocks_of p) p.clients no_client 0 (λ i less. let place : i ≡ 0 + i = omega arith in ap (blocks_of p) place)

abbrev no_events : List Event
no_events = []

none_at : (n k : ℕ) → get_or (replicate n no_events) k [] ≡ []
none_at (suc n) (suc k) = none_at n k
none_at _ _ = refl

-- no Sync of a block is counted before the first
none_counted : (blocks : List BlockCode) (k : ℕ) → get_or (fresh_rows (lists_of_code blocks)) k [] ≡ no_syncs (get_or blocks k no_code).reserved
none_counted (b ∷ blocks) (suc k) = none_counted blocks k
none_counted _ _ = refl

-- any lane of a client that has begun nothing
lane_fresh : (size n h : ℕ) → (lane_at (replicate n (fresh_lane size)) h ≡ fresh_lane size) ⊎ (lane_at (replicate n (fresh_lane size)) h ≡ fresh_lane 0)
lane_fresh size zero h = inr refl
lane_fresh size (suc n) zero = inl refl
lane_fresh size (suc n) (suc h) = lane_fresh size n h

-- a field that is the same in all fresh lanes
lane_field : {A : Type 0} (f : LaneState → A) (a : A) → ((size : ℕ) → f (fresh_lane size) ≡ a) → (size n h : ℕ) → f (lane_at (replicate n (fresh_lane size)) h) ≡ a
lane_field f a each size n h = search (rules, lane_fresh)

-- the member at a place
pick : {A : Type 0} (xs : List A) (i : ℕ) → i < length xs → A
pick [] i less = absurd (omega (arith, less))
pick (x ∷ xs) zero less = x
pick (x ∷ xs) (suc i) less = pick xs i (omega (arith, less))

-- a client's side before its first block
pub record IsFreshSide (s : ClientPart) : Type 0 where
  pub code : ClientCode
  pub chunk : ℕ
  pub lanes_of : ℕ
  pub mind : s.mind ≡ fresh_mind code chunk
  pub lanes : s.lanes ≡ replicate lanes_of (fresh_lane chunk)

module _ (p : ProgramShape) (mode : Mode) (chunk room : ℕ) (cs : List CoreClientState) (hs : List CoreHandlerState) (clients : AreFreshClients p mode chunk cs) (handlers : AreFreshHandlers p room hs) (sound : IsSound p) where
  abbrev fresh_state : CoreState
  fresh_state = record { program = p; size = chunk; order = []; clients = cs; handlers = hs }

  in_list : (c : ℕ) (d : CoreClientState) → c < length p.clients → client_part_at cs c ≡ client_part (get_or cs c d)
  in_list c d less = map_here client_part cs c d no_client_part (subst (λ n. c < n) (sym clients.many) less)

  -- the client of this number
  formed_of : (c : ℕ) → c < length p.clients → CoreClientState
  formed_of c less = pick cs c (subst (λ n. c < n) (sym clients.many) less)

  fresh_inside : (c : ℕ) → c < length p.clients → IsFreshSide (client_part_at cs c)
  fresh_inside c less =
      let f = clients.each c (formed_of c less) less in
      subst IsFreshSide (sym (in_list c (formed_of c less) less)) (record { code = f.code; chunk = chunk; lanes_of = length p.objects; mind = f.mind; lanes = f.lanes })

  out_of : {A : Type 0} (xs : List A) (c : ℕ) (d : A) → length xs ≤ c → get_or xs c d ≡ d
  out_of [] c d out = refl
  out_of (x ∷ xs) zero d out = absurd (omega (arith, out))
  out_of (x ∷ xs) (suc c) d out = out_of xs c d (omega (arith, out))

  beyond : (c : ℕ) → length p.clients ≤ c → client_part_at cs c ≡ no_client_part
  beyond c out = out_of (map client_part cs) c no_client_part (let m : length (map client_part cs) ≡ length cs = length-map cs client_part in omega (arith, m, clients.many, out))

  fresh_side : (c : ℕ) → IsFreshSide (client_part_at cs c)
  fresh_side c = by_test (nat_lt c (length p.clients)) refl
    where
      by_test : (b : Bool) → nat_lt c (length p.clients) ≡ b → IsFreshSide (client_part_at cs c)
      by_test true e = fresh_inside c (grind (arith, e))
      by_test false e = subst IsFreshSide (sym (beyond c (grind (arith, e)))) (record { code = record { dynamic = false; blocks = [] }; chunk = 0; lanes_of = 0; mind = refl; lanes = refl })

  codes_inside : (c : ℕ) → c < length p.clients → IsCodeOf p mode c (codes_of fresh_state c)
  codes_inside c less =
      let f = clients.each c (formed_of c less) less in
      subst (IsCodeOf p mode c) (sym (ap (λ (x : ClientPart). x.mind.code) (in_list c (formed_of c less) less) ∙ ap (λ (m : ClientModel). m.code) f.mind)) f.of

  pub codes_are : AreCodes p mode (codes_of fresh_state)
  codes_are = record { own = codes_inside; none = λ c out. ap (λ (x : ClientPart). x.mind.code.blocks) (beyond c out) }

  handlers_are : (h : ℕ) → core_handler_of p hs h ≡ free (fresh_held p h)
  handlers_are h = by_test (nat_lt h (length p.objects)) refl
    where
      by_test : (b : Bool) → nat_lt h (length p.objects) ≡ b → core_handler_of p hs h ≡ free (fresh_held p h)
      by_test true e =
          let less : h < length p.objects = grind (arith, e) in
          map_here handler_with_act hs h no_core_handler (free (fresh_held p h)) (omega (arith, less, handlers.many)) ∙ ap handler_with_act (handlers.each h no_core_handler less)
      by_test false e =
          let out : length p.objects ≤ h = grind (arith, e) in
          out_of (map handler_with_act hs) h (free (fresh_held p h)) (let m : length (map handler_with_act hs) ≡ length hs = length-map hs handler_with_act in omega (arith, m, handlers.many, out))

  tickets_are : (h : ℕ) → tickets_at hs h ≡ []
  tickets_are h = by_test (nat_lt h (length p.objects)) refl
    where
      queue_of : CoreHandlerState → List Ticket
      queue_of x = x.tickets

      by_test : (b : Bool) → nat_lt h (length p.objects) ≡ b → tickets_at hs h ≡ []
      by_test true e =
          let less : h < length p.objects = grind (arith, e) in
          map_here queue_of hs h no_core_handler [] (omega (arith, less, handlers.many)) ∙ ap queue_of (handlers.each h no_core_handler less)
      by_test false e =
          let out : length p.objects ≤ h = grind (arith, e) in
          out_of (map queue_of hs) h [] (let m : length (map queue_of hs) ≡ length hs = length-map hs queue_of in omega (arith, m, handlers.many, out))

  counts_are : (t : Ticket) → get_or (client_part_at cs t.client).mind.counts t.index [] ≡ no_syncs (text_of p t).reserved
  counts_are t =
      ap (λ (m : ClientModel). get_or m.counts t.index []) (fresh_side t.client).mind
      ∙ (none_counted (fresh_side t.client).code.blocks t.index
      ∙ ap no_syncs (ap (λ (m : ClientModel). (code_at m.code t.index).reserved) (sym (fresh_side t.client).mind) ∙ reserved_is p sound mode (codes_of fresh_state) codes_are t))

  pub begins : core_of fresh_state ≡ core_begin p
  unfolding core_of
  begins = λ k. record {
    order = [];
    client = fun_ext (λ c. ap (λ (m : ClientModel). m.client) (fresh_side c).mind) k;
    syncs = fun_ext (λ c. ap (λ (m : ClientModel). m.syncs) (fresh_side c).mind) k;
    sync_counts = fun_ext counts_are k;
    down = fun_ext (λ c. fun_ext (λ h. (λ i. (lane_at ((fresh_side c).lanes i) h).down) ∙ lane_field (λ (l : LaneState). l.down) [] (λ n. refl) (fresh_side c).chunk (fresh_side c).lanes_of h)) k;
    up = fun_ext (λ c. fun_ext (λ h. (λ i. (lane_at ((fresh_side c).lanes i) h).up) ∙ lane_field (λ (l : LaneState). l.up) None (λ n. refl) (fresh_side c).chunk (fresh_side c).lanes_of h)) k;
    spare = fun_ext (λ c. fun_ext (λ h. (λ i. length (lane_at ((fresh_side c).lanes i) h).spare) ∙ lane_field (λ (l : LaneState). length l.spare) 4 (λ n. refl) (fresh_side c).chunk (fresh_side c).lanes_of h)) k;
    handler = fun_ext handlers_are k;
    tickets = fun_ext tickets_are k;
    entry = fun_ext (λ (t : Ticket). ap (λ (m : ClientModel). get_or m.entries t.index []) (fresh_side t.client).mind) k;
    trace = fun_ext (λ (t : Ticket). ap (λ (m : ClientModel). get_or m.traces t.index []) (fresh_side t.client).mind ∙ none_at (length (fresh_side t.client).code.blocks) t.index) k;
  }

  replicate_stocked : (size n : ℕ) → AllByRecursion (IsStocked size) (replicate n (fresh_lane size))
  replicate_stocked size zero = tt
  replicate_stocked size (suc n) = ((refl, (refl, (refl, (refl, tt)))), replicate_stocked size n)

  each_of : {A : Type 0} (P : A → Type 0) (xs : List A) → ((d : A) (i : ℕ) → i < length xs → P (get_or xs i d)) → AllByRecursion P xs
  each_of P [] all = tt
  each_of P (x ∷ xs) all = (all x 0 (omega arith), each_of P xs (λ d i less. all d (suc i) (omega arith)))

  length_replicate : {A : Type 0} (n : ℕ) (x : A) → length (replicate n x) ≡ n
  length_replicate zero x = refl
  length_replicate (suc n) x = ap suc (length_replicate n x)

  pub kept : room ≡ all_blocks p → IsCoreState fresh_state
  kept enough = record {
    clients = clients.many;
    handlers = handlers.many;
    sides = λ c less.
        let inside : c < length p.clients = omega (arith, less, clients.many) in
        let d = formed_of c inside in
        let f = clients.each c d inside in
        subst (IsSide p chunk c) (sym (in_list c d inside)) (record {
          lanes = ap length f.lanes ∙ length_replicate (length p.objects) (fresh_lane chunk);
          size = ap (λ (m : ClientModel). m.size) f.mind;
          owner = λ some. let none : (whole_of (get_or cs c d)).client.begun ≡ 0 = ap (λ (m : ClientModel). m.client.begun) f.mind in absurd (omega (arith, some, none));
        });
    stocked = each_of AreStocked cs (λ d c less.
        let f = clients.each c d (omega (arith, less, clients.many)) in
        subst (λ n. AllByRecursion (IsStocked n) (get_or cs c d).lanes) (sym (ap (λ (m : ClientModel). m.size) f.mind)) (subst (AllByRecursion (IsStocked chunk)) (sym f.lanes) (replicate_stocked chunk (length p.objects))));
    rooms = grind (arith, each_of, handlers);
    mode = mode;
    codes = codes_are;
  }
