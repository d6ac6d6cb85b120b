-- Where a client's next block has run on what the lists of a standing hold, they hold the next configuration, and the
-- order that is longer by one ticket leads there. The functions that make standings rest on it. Lists by number are
-- functions that are changed at one place, and the last ticket of an order is taken last.
use Rattle.std.proofs.Common.{◌≡◌, ◌<◌, ◌≤◌, ℕ, suc, Bool, true, false, ◌==◌, List, [], ◌∷◌, ◌++◌, length, get_or, replicate, refl, sym, ap, ◌∙◌, subst, arith, ⊎_elim, append_assoc, append-nil, ◌⊎◌, inl, inr, ℤ, slice_set}
use Rattle.qs_standings.proofs.Common.{AllByRecursion, AreCallsWithin, block_at, BlockResult, blocks_of, BlockShape, cases_Bool, cases_lt, Configuration, configuration-append, configuration_after, configuration_from, declared_states, eqb_true, first_configuration, get_or_default, get_or_past, goes_on, is_in, IsCallWithin, IsLegal, IsReducedFrom, IsSoundBlock, IsSoundBody, IsSoundCall, legal_on, LegalFrom, length-replicate, length-set, no_client, no_object, no_state, one_block_on, ProgramShape, put, solo, starts, State, state_or_none, states_in, Ticket, zeros}
use Rattle.qs_objects.proofs.Arities.{arity_small}
use Rattle.qs_program.specs.declared.code.Call.{Call}
use Rattle.qs_program.specs.declared.program.Declared.{Declared}
use Rattle.qs_program.specs.audit.Statements.{Statements, end, command, query, assign, choose, again, leave}
use Rattle.qs_serial.proofs.Lookups.{lookup-replicate, lookup-set}
use Rattle.qs_meaning.proofs.Groups.{some_go_on}
use Rattle.qs_standings.specs.Standings.{GoesOn, HasNext, HasRun, IsFirst, IsNext, IsOneOn, IsReducedAfter, IsStanding, StandingShape, configuration_in, standing_with_block}

pub below_or_past : (h n : ℕ) → (h < n) ⊎ (n ≤ h)
below_or_past = cases_lt

pub configuration-snoc : (p : ProgramShape) (g : Configuration) (ts : List Ticket) (t : Ticket) → configuration_from p g (ts ++ t ∷ []) ≡ one_block_on p t.client (configuration_from p g ts)
configuration-snoc p g [] t = refl
configuration-snoc p g (u ∷ ts) t = configuration-snoc p (one_block_on p u.client g) ts t

legal-snoc : (p : ProgramShape) (g : Configuration) (ts : List Ticket) (t : Ticket) → LegalFrom p g.begun ts
    → t.index ≡ (configuration_from p g ts).begun t.client → t.index < blocks_of p t.client → LegalFrom p g.begun (ts ++ t ∷ [])
legal-snoc p g [] t legal is less = (is, less, tt)
legal-snoc p g (u ∷ ts) t legal is less = (
  legal.0,
  legal.1,
  subst (λ k. LegalFrom p (put g.begun u.client (suc k)) (ts ++ t ∷ [])) (sym legal.0)
      (legal-snoc p (one_block_on p u.client g) ts t (legal_on p g u ts legal) is less),
)

reduced-snoc : (p : ProgramShape) (g : Configuration) (ts : List Ticket) (t : Ticket) → IsReducedFrom p g ts → goes_on p (configuration_from p g ts).begun t.client ≡ true
    → IsReducedFrom p g (ts ++ t ∷ [])
reduced-snoc p g [] t reduced goes = (goes, tt)
reduced-snoc p g (u ∷ ts) t reduced goes = (reduced.0, reduced-snoc p (one_block_on p u.client g) ts t reduced.1 goes)

-- who goes on has a block left
pub goes_left : (p : ProgramShape) (s : StandingShape) (c : ℕ) → GoesOn p s c → HasNext p s c
goes_left p s c goes = (some_go_on p (configuration_in s).begun).undisturbed.left c goes

-- who has a block is one of the program's clients
pub has_place : (p : ProgramShape) (c k : ℕ) → k < blocks_of p c → c < length p.clients
has_place p c k less = elim (cases_lt c (length p.clients)) [
  | inl inside ↦ inside
  | inr past ↦ absurd (omega (arith, less, ap (λ (d : _). length d.blocks) (get_or_past p.clients c no_client past)))
]

-- and so is who has a block left
pub in_program : (p : ProgramShape) (s : StandingShape) (c : ℕ) → HasNext p s c → c < length p.clients
in_program p s c left = has_place p c (get_or s.begun c 0) left

module _ (p : ProgramShape) (front : List Ticket) (s n : StandingShape) (c : ℕ) (standing : IsStanding p front s) (client : c < length p.clients) (left : HasNext p s c) where
  abbrev ran : BlockResult
  ran = solo (block_at p c (get_or s.begun c 0)).body (get_or s.locals c zeros) (states_in s.states)

  abbrev ticket : Ticket
  ticket = record { client = c; index = get_or s.begun c 0 }

  reduced_on : GoesOn p s c → IsReducedAfter p front (s.order ++ ticket ∷ [])
  reduced_on goes =
      let r = standing.reduced in
      let there : configuration_in s ≡ configuration_from p (configuration_after p front) r.rest =
      standing.stands ∙ (ap (configuration_after p) r.whole ∙ configuration-append p (first_configuration p) front r.rest) in
      record {
        rest = r.rest ++ ticket ∷ [];
        whole = ap (λ ts. ts ++ ticket ∷ []) r.whole ∙ append_assoc front r.rest (ticket ∷ []);
        reduced = reduced-snoc p (configuration_after p front) r.rest ticket r.reduced (subst (λ (g : Configuration). goes_on p g.begun c ≡ true) there goes);
      }

  pub stands_on : n.order ≡ s.order ++ record { client = c; index = get_or s.begun c 0 } ∷ []
      → n.begun ≡ slice_set s.begun c (suc (get_or s.begun c 0))
      → n.locals ≡ slice_set s.locals c (solo (block_at p c (get_or s.begun c 0)).body (get_or s.locals c zeros) (states_in s.states)).locals
      → states_in n.states ≡ (solo (block_at p c (get_or s.begun c 0)).body (get_or s.locals c zeros) (states_in s.states)).states
      → length n.states ≡ length s.states → IsOneOn p s c n
  stands_on order begun locals states count =
      let here : c < length s.begun = omega (arith, client, standing.begun) in
      let there : c < length s.locals = omega (arith, client, standing.locals) in
      let counts : ◌≡◌ {A = ℕ → ℕ} (λ j. get_or n.begun j 0) (put (λ j. get_or s.begun j 0) c (suc (get_or s.begun c 0))) =
      ap (λ xs (j : ℕ). get_or xs j 0) begun ∙ lookup-set s.begun c (suc (get_or s.begun c 0)) 0 here in
      let values : ◌≡◌ {A = ℕ → List _} (λ j. get_or n.locals j zeros) (put (λ j. get_or s.locals j zeros) c ran.locals) =
      ap (λ xs (j : ℕ). get_or xs j zeros) locals ∙ lookup-set s.locals c ran.locals zeros there in
      let next : configuration_in n ≡ one_block_on p c (configuration_in s) = λ i. record { begun = counts i; locals = values i; states = states i } in
      let begins : get_or s.begun c 0 ≡ (configuration_after p s.order).begun c = ap (λ (g : Configuration). g.begun c) standing.stands in
      record {
        standing = record {
          begun = ap length begun ∙ length-set s.begun c _ ∙ standing.begun;
          locals = ap length locals ∙ length-set s.locals c _ ∙ standing.locals;
          states = count ∙ standing.states;
          legal = subst (IsLegal p) (sym order) (legal-snoc p (first_configuration p) s.order ticket standing.legal begins left);
          reduced = record { rest = []; whole = sym (append-nil n.order); reduced = tt };
          stands = next ∙ ap (one_block_on p c) standing.stands
              ∙ sym (ap (configuration_after p) order ∙ configuration-snoc p (first_configuration p) s.order ticket);
        };
        order = order;
        next = next;
      }

  pub goes_next : IsOneOn p s c n → GoesOn p s c → IsNext p front s c n
  goes_next on goes = record {
    standing = record {
      begun = on.standing.begun;
      locals = on.standing.locals;
      states = on.standing.states;
      legal = on.standing.legal;
      reduced = subst (IsReducedAfter p front) (sym on.order) (reduced_on goes);
      stands = on.standing.stands;
    };
    order = on.order;
    next = on.next;
  }

-- where a block has run, the standing with this block
pub block_on : (p : ProgramShape) (front : List Ticket) (s : StandingShape) (c : ℕ) (values : List ℤ) (states : List State) → IsStanding p front s → c < length p.clients
    → HasNext p s c → HasRun p s c values states → IsOneOn p s c (standing_with_block s c values states)
block_on p front s c values states standing client left ran =
    stands_on p front s (standing_with_block s c values states) c standing client left refl refl (ap (slice_set s.locals c) ran.locals) ran.states ran.count

pub block_next : (p : ProgramShape) (front : List Ticket) (s : StandingShape) (c : ℕ) (values : List ℤ) (states : List State) → IsStanding p front s → c < length p.clients
    → GoesOn p s c → HasRun p s c values states → IsNext p front s c (standing_with_block s c values states)
block_next p front s c values states standing client goes ran =
    goes_next p front s (standing_with_block s c values states) c standing client (goes_left p s c goes)
    (block_on p front s c values states standing client (goes_left p s c goes) ran) goes

pub stands_first : (p : ProgramShape) (s : StandingShape) → s.order ≡ [] → s.begun ≡ replicate (length p.clients) 0 → s.locals ≡ replicate (length p.clients) zeros
    → length s.states ≡ length p.objects → ((h : ℕ) → h < length p.objects → get_or s.states h no_state ≡ declared_states p h) → IsFirst p [] s
stands_first p s order begun locals count states =
    let first : configuration_in s ≡ first_configuration p = λ i. record { begun = counts i; locals = values i; states = objects i } in
    record {
      standing = record {
        begun = ap length begun ∙ length-replicate (length p.clients) 0;
        locals = ap length locals ∙ length-replicate (length p.clients) zeros;
        states = count;
        legal = subst (IsLegal p) (sym order) tt;
        reduced = record { rest = []; whole = order; reduced = tt };
        stands = first ∙ sym (ap (configuration_after p) order);
      };
      order = order;
      first = first;
    }
  where
    counts : ◌≡◌ {A = ℕ → ℕ} (λ j. get_or s.begun j 0) (λ _. 0)
    counts = λ i j. (ap (λ xs. get_or xs j 0) begun ∙ lookup-replicate (length p.clients) j 0) i

    values : ◌≡◌ {A = ℕ → List _} (λ j. get_or s.locals j zeros) (λ _. zeros)
    values = λ i j. (ap (λ xs. get_or xs j zeros) locals ∙ lookup-replicate (length p.clients) j zeros) i

    beyond : (h : ℕ) → length p.objects ≤ h → no_state ≡ declared_states p h
    beyond h past = sym (ap (λ (o : Declared). state_or_none (starts o.kind)) (get_or_past p.objects h no_object past))

    at : (h : ℕ) → states_in s.states h ≡ declared_states p h
    at h =
        ⊎_elim
        (λ (within : h < length p.objects). states h within)
        (λ (past : length p.objects ≤ h). get_or_past s.states h no_state (omega (arith, past, count)) ∙ beyond h past)
        (cases_lt h (length p.objects))

    objects : states_in s.states ≡ declared_states p
    objects = λ i h. at h i

-- an object of a list of objects below n
below_in : (n x : ℕ) (xs : List ℕ) → AllByRecursion (λ h. h < n) xs → is_in xs x ≡ true → x < n
below_in n x [] each is = absurd (cc)
below_in n x (y ∷ xs) each is = elim (cases_Bool (y == x)) [
  | inl e ↦ let same : y ≡ x = eqb_true y x e in let less : y < n = each.0 in omega (arith, same, less)
  | inr e ↦ below_in n x xs each.1 (rw e at is)
]

module _ (objects : List Declared) (reserved : List ℕ) (within : AllByRecursion (λ h. h < length objects) reserved) where
  call_within : (asks : Bool) (c : Call) → IsSoundCall objects reserved asks c → IsCallWithin (length objects) c
  call_within asks c is = record {
    object = below_in (length objects) c.object reserved within is.reserves;
    args = (let few = arity_small c.op in let count = is.arity in omega (arith, few, count));
  }

  body_within : (body : Statements) → IsSoundBody objects reserved body → AreCallsWithin (length objects) body
  body_within end is = tt
  body_within (command c rest) is = (call_within false c is.0, body_within rest is.1)
  body_within (query x c rest) is = (call_within true c is.1, body_within rest is.2)
  body_within (assign x e rest) is = body_within rest is.2
  body_within (choose t has_else first other rest) is = (body_within first is.1, body_within other is.2, body_within rest is.3)
  body_within (again m body rest) is = (body_within body is.1, body_within rest is.2)
  body_within (leave rest) is = body_within rest is

pub block_within : (objects : List Declared) (b : BlockShape) → IsSoundBlock objects b → AreCallsWithin (length objects) b.body
block_within objects b is = body_within objects b.reserved is.reserved b.body is.body

-- what was read of a list at a place, by another name of the list and of the place
pub read_at : {X : Type 0} (xs ys : List X) (i j : ℕ) (v d : X) → v ≡ get_or xs j v → j ≡ i → xs ≡ ys → i < length ys → v ≡ get_or ys i d
read_at {X = X} xs ys i j v d is place same within =
    is ∙ ap (λ k. get_or xs k v) place ∙ ap (λ zs. get_or zs i v) same ∙ get_or_default ys i v d within

pub same_run : {a b : BlockShape} {l m : List ℤ} {ss us : List State} → a ≡ b → l ≡ m → ss ≡ us → solo a.body l (states_in ss) ≡ solo b.body m (states_in us)
same_run e f g = λ i. solo (e i).body (f i) (states_in (g i))

pub same_set : {X : Type 0} {xs ys : List X} {i j : ℕ} {v w : X} → xs ≡ ys → i ≡ j → v ≡ w → slice_set xs i v ≡ slice_set ys j w
same_set e f g = λ k. slice_set (e k) (f k) (g k)

pub same_longer : (c : ℕ) {xs ys : List Ticket} {k m : ℕ} → xs ≡ ys → k ≡ m
    → ◌≡◌ {A = List Ticket} (xs ++ record { client = c; index = k } ∷ []) (ys ++ record { client = c; index = m } ∷ [])
same_longer c e f = λ i. e i ++ record { client = c; index = f i } ∷ []
