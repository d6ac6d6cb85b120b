-- Blocks of equal text make the same requests and get the same replies, up to a query on an object that started in
-- another state. Two twin trees are run side by side: as long as all replies were equal, objects that started in the
-- same state are in the same state, since both served the same requests.
use Rattle.std.proofs.Common.{◌≡◌, ◌≢◌, ◌<◌, ◌≤◌, ℕ, zero, suc, ℤ, Bool, true, false, true≢false, ◌==◌, if◌then◌else◌, List, [], ◌∷◌, ◌++◌, length, map, get_or, slice_set, Option, Some, None, ◌⊎◌, inl, inr, ⊎_elim, refl, sym, ap, ◌∙◌, subst, arith}
use Rattle.std.specs.List.{AllByRecursion, IsDistinct}
use Rattle.std.specs.Cmp.Lexicographic.{other_text}
use Rattle.std.proofs.Math.IntN.{ℤ_discrete}
use Rattle.qs_meaning.proofs.Common.{act, ActResult, after, again, answer, apart_eqb, assign, BlockShape, cases_Bool, choose, client_at, ClientShape, command, Declared, end, eqb_apart, eqb_self, Event, expr_value, get_or-map, is_in, is_query, IsFront, leave, length-map, length-set, Locals, most_variables, no_block, no_client, no_object, num_cases, part, ProgramShape, query, Request, State, Statements, test_value, text_of, Ticket}
use Rattle.qs_objects.proofs.Elements.{AllByRecursion-get_or}
use Rattle.qs_program.specs.audit.Numbering.{Name, same_name}
use Rattle.qs_program.specs.Sound.{AreVariablesBelow, IsFormedBlock, IsFormedClient, IsFormedProgram, IsSound, IsSoundBlock, IsSoundClient}
use Rattle.qs_meaning.specs.Alike.{SameStatements, SameText, SameValues, SameObject, SameRequest, SameEvent, SameTrace, StartAlike, AskAlike, AlikeFrom, HasValues, BlocksAlike, PlacesAlike, ValuesByName, object_name, variable_name, value_at}
use Rattle.qs_meaning.specs.audit.Following.{reserves}
use Rattle.qs_meaning.specs.Following.{AsksOnly}
use Rattle.qs_meaning.specs.audit.Interaction.{Interaction, Done, Call, Query, Next, meaning, tree_of}
use Rattle.qs_meaning.specs.Interaction.{turns, run}
use Rattle.qs_meaning.specs.audit.Serial.{declared_states, zeros}
use Rattle.qs_meaning.specs.Serial.{SerialBlock, serial, serial_from}
use Rattle.qs_meaning.specs.audit.Solo as alone
use Rattle.qs_meaning.specs.audit.Solo.{States, states_after, event, put, solo, value_of}
use Rattle.qs_meaning.proofs.Each.{each_map}
use Rattle.qs_meaning.proofs.EqualTexts.{Below, Twin, all_below, both, tree_twin}
use Rattle.qs_meaning.proofs.SoundTrees.{blocks_ask_only}
use Rattle.qs_meaning.proofs.Trees.{trees_agree}
use Rattle.qs_meaning.proofs.TreeWalks.{put_here, put_there}

-- Names that differ: two places of a list of distinct names that have one name are one place.

pub all_at : {X : Type 0} (P : X → Type 0) (xs : List X) (i : ℕ) (d : X) → AllByRecursion P xs → P d → P (get_or xs i d)
all_at P [] i d each past = past
all_at P (x ∷ xs) zero d each past = each.0
all_at P (x ∷ xs) (suc i) d each past = all_at P xs i d each.1 past

other_name : (a b : Name) → same_name a b ≡ false → a ≢ b
other_name a b e = other_text a b (sym e)

one_place : (ns : List Name) (i j : ℕ) → IsDistinct same_name ns → i < length ns → j < length ns → get_or ns i [] ≡ get_or ns j [] → i ≡ j
unfolding IsDistinct
one_place [] i j distinct a b e = absurd (omega (arith, a))
one_place (n ∷ ns) zero zero distinct a b e = refl
one_place (n ∷ ns) zero (suc j) distinct a b e =
    absurd (other_name n (get_or ns j []) (AllByRecursion-get_or (λ m. same_name n m ≡ false) ns j [] distinct.0 (omega (arith, b))) e)
one_place (n ∷ ns) (suc i) zero distinct a b e =
    absurd (other_name n (get_or ns i []) (AllByRecursion-get_or (λ m. same_name n m ≡ false) ns i [] distinct.0 (omega (arith, a))) (sym e))
one_place (n ∷ ns) (suc i) (suc j) distinct a b e = ap suc (one_place ns i j distinct.1 (omega (arith, a)) (omega (arith, b)) e)

one_object : (p : ProgramShape) → IsSound p → (h g : ℕ) → h < length p.objects → g < length p.objects → object_name p h ≡ object_name p g → h ≡ g
unfolding IsFormedProgram
one_object p sound h g a b e =
    let names : List Name = map (λ (o : Declared). o.name) p.objects in
    let many : length names ≡ length p.objects = length-map p.objects (λ (o : Declared). o.name) in
    one_place names h g sound.form.0.objects (omega (arith, many, a)) (omega (arith, many, b))
    (get_or-map (λ (o : Declared). o.name) p.objects h no_object [] a ∙ (e ∙ sym (get_or-map (λ (o : Declared). o.name) p.objects g no_object [] b)))

-- the client of any ticket, and its block: of a ticket that names none, the empty ones
formed_client : (p : ProgramShape) → IsSound p → (c : ℕ)
    → IsDistinct same_name (client_at p c).variables × AllByRecursion (λ b. AreVariablesBelow (length (client_at p c).variables) b.body) (client_at p c).blocks
unfolding IsFormedProgram IsDistinct
formed_client p sound c =
    let Q : ClientShape → BlockShape → Type 0 = λ c b. AreVariablesBelow (length c.variables) b.body in
    let P : ClientShape → Type 0 = λ c. IsDistinct same_name c.variables × AllByRecursion (Q c) c.blocks in
    let each : (c : ClientShape) → IsFormedClient c → P c =
    λ c f. (f.variables, each_map (λ (b : BlockShape) (k : IsFormedBlock (length c.variables) b). k.below) c.blocks f.each) in
    all_at P p.clients c no_client
    (each_map each p.clients sound.form.1)
    (tt, tt)

one_variable : (p : ProgramShape) → IsSound p → (t : Ticket) (x y : ℕ)
    → x < length (client_at p t.client).variables → y < length (client_at p t.client).variables
    → variable_name p t x ≡ variable_name p t y → x ≡ y
one_variable p sound t x y a b e = one_place (client_at p t.client).variables x y (formed_client p sound t.client).0 a b e

pub variables_below : (p : ProgramShape) → IsSound p → (t : Ticket) → AreVariablesBelow (length (client_at p t.client).variables) (text_of p t).body
variables_below p sound t =
    all_at (λ (b : BlockShape). AreVariablesBelow (length (client_at p t.client).variables) b.body) (client_at p t.client).blocks t.index no_block
    (formed_client p sound t.client).1 tt

reserved_below : (p : ProgramShape) → IsSound p → (t : Ticket) → AllByRecursion (λ h. h < length p.objects) (text_of p t).reserved
reserved_below p sound t =
    let P : BlockShape → Type 0 = λ b. AllByRecursion (λ h. h < length p.objects) b.reserved in
    all_at P (client_at p t.client).blocks t.index no_block
    (all_at (λ (c : ClientShape). AllByRecursion P c.blocks) p.clients t.client no_client
    (each_map
    (λ (c : ClientShape) (f : IsSoundClient p.objects c). each_map (λ (b : BlockShape) (k : IsSoundBlock p.objects b). k.reserved) c.blocks f.each)
    p.clients sound.each) tt)
    tt

member : (P : ℕ → Type 0) (xs : List ℕ) (x : ℕ) → is_in xs x ≡ true → AllByRecursion P xs → P x
member P [] x is each = absurd (true≢false (sym is))
member P (y ∷ ys) x is each = elim (num_cases y x) [ inl same ↦ subst P same each.0 | inr other ↦ member P ys x (rw other at is) each.1 ]

in_range : (p : ProgramShape) → IsSound p → (t : Ticket) (h : ℕ) → reserves p t h ≡ true → h < length p.objects
in_range p sound t h is = member (λ h. h < length p.objects) (text_of p t).reserved h is (reserved_below p sound t)

option_dec : (v w : Option ℤ) → (v ≡ w) ⊎ (v ≢ w)
option_dec None None = inl refl
option_dec None (Some y) = inr (λ e. cc (e))
option_dec (Some x) None = inr (λ e. cc (e))
option_dec (Some x) (Some y) = elim (ℤ_discrete x y) [ yes e ↦ inl (ap Some e) | no f ↦ inr (λ e. f (cc (e))) ]

part_more : (h : ℕ) (e : Event) (es : List Event) → part h es ≢ [] → part h (e ∷ es) ≢ []
part_more h e es k = elim (cases_Bool (e.request.object == h)) [ inl is ↦ rw is (λ i. cc (i)) | inr other ↦ rw other k ]

part_has : (h : ℕ) (e : Event) (es : List Event) → e.request.object ≡ h → part h (e ∷ es) ≢ []
part_has h e es is = rw (ap (λ n. n == h) is ∙ eqb_self h) (λ i. cc (i))

-- a block of each of two sound programs, and the states from which they start
module _ (p q : ProgramShape) (sound : IsSound p) (right : IsSound q) (t u : Ticket) (st tu : States) where
  abbrev pub Same : ℕ → ℕ → Type 0
  Same h g = SameObject p q t u h g

  one_there : (h g f : ℕ) → Same h g → Same h f → g ≡ f
  one_there h g f a b = one_object q right g f (in_range q right u g a.there) (in_range q right u f b.there) (sym a.name ∙ b.name)

  one_here : (h g f : ℕ) → Same h f → Same g f → h ≡ g
  one_here h g f a b = one_object p sound h g (in_range p sound t h a.here) (in_range p sound t g b.here) (a.name ∙ sym b.name)

  -- the first replies that differ are of a query on an object that started in two states
  pub record Differ (e d : Event) : Type 0 where
    pub same : Same e.request.object d.request.object
    pub request : SameRequest p q e.request d.request
    pub asks : is_query e.request.op ≡ true
    pub apart : st e.request.object ≢ tu d.request.object

  abbrev pub Alike : List Event → List Event → Type 0
  Alike [] [] = Unit {0}
  Alike (e ∷ es) (d ∷ ds) = (SameEvent p q e d × Alike es ds) ⊎ Differ e d
  Alike _ _ = ⊥

  -- what started in the same state is in the same state
  abbrev AreEqualWhereBegunEqual : States → States → Type 0
  AreEqualWhereBegunEqual s z = (h g : ℕ) → Same h g → st h ≡ tu g → s h ≡ z g

  act_same : (a b : State) (r s : Request) → a ≡ b → SameRequest p q r s → act a r.op r.args ≡ act b s.op s.args
  act_same a b r s is same = λ i. act (is i) (same.op i) (same.args i)

  changed_kept : (s z : States) (r r' : Request) → Same r.object r'.object → SameRequest p q r r' → AreEqualWhereBegunEqual s z → AreEqualWhereBegunEqual (states_after s r) (states_after z r')
  changed_kept s z r r' mine same kept h g other began =
      ⊎_elim
      (λ (is : r.object ≡ h).
      let there : r'.object ≡ g = one_there r.object r'.object g mine (subst (λ h. Same h g) (sym is) other) in
      let start : st r.object ≡ tu r'.object = ap st is ∙ (began ∙ ap tu (sym there)) in
      subst (λ h. states_after s r h ≡ states_after z r' g) is
      (subst (λ g. states_after s r r.object ≡ states_after z r' g) there
      (put_here s r.object (after (s r.object) r)
      ∙ (ap (λ (o : ActResult). o.0) (act_same (s r.object) (z r'.object) r r' (kept r.object r'.object mine start) same)
      ∙ sym (put_here z r'.object (after (z r'.object) r'))))))
      (λ (no : (r.object == h) ≡ false).
      let not_there : r'.object ≢ g = λ i. apart_eqb r.object h no (one_here r.object h g (subst (λ g. Same r.object g) i mine) other) in
      put_there s r.object (after (s r.object) r) h no
      ∙ (kept h g other began ∙ sym (put_there z r'.object (after (z r'.object) r') g (eqb_apart r'.object g not_there))))
      (num_cases r.object h)

  matched : (r s : Request) → reserves p t r.object ≡ true → reserves q u s.object ≡ true → SameRequest p q r s → Same r.object s.object
  matched r s a b same = record { here = a; there = b; name = same.object }

  twin_alike : (a b : Interaction) → AsksOnly (reserves p t) a → AsksOnly (reserves q u) b → Twin p q a b → (s z : States) → AreEqualWhereBegunEqual s z
      → Alike (run a s).trace (run b z).trace
  twin_alike (Done l) (Done k) f g w s z kept = tt
  twin_alike (Call r next) (Call r' later) f g w s z kept =
      inl (
        record { request = w.0; reply = refl },
        twin_alike next later f.2 g.2 w.1 (states_after s r) (states_after z r') (changed_kept s z r r' (matched r r' f.1 g.1 w.0) w.0 kept),
      )
  twin_alike (Query r next) (Query r' later) f g w s z kept =
      let v : Option ℤ = answer (s r.object) r in
      let v' : Option ℤ = answer (z r'.object) r' in
      let mine : Same r.object r'.object = matched r r' f.1 g.1 w.0 in
      ⊎_elim
      (λ (is : v ≡ v').
      inl (
        record { request = w.0; reply = is },
        subst (λ x. Alike (run (next (value_of v)) (states_after s r)).trace (run (later (value_of x)) (states_after z r')).trace) is
            (twin_alike (next (value_of v)) (later (value_of v)) (f.2 (value_of v)) (g.2 (value_of v)) (w.1 (value_of v)) (states_after s r) (states_after z r')
            (changed_kept s z r r' mine w.0 kept)),
      ))
      (λ (no : v ≢ v').
      inr (record {
        same = mine;
        request = w.0;
        asks = f.0;
        apart = λ began. no (ap (λ (o : ActResult). o.1) (act_same (s r.object) (z r'.object) r r' (kept r.object r'.object mine began) w.0));
      }))
      (option_dec v v')
  twin_alike _ _ f g w s z kept = absurd w

  equal_traces : (es ds : List Event) → Alike es ds → StartAlike p q t u st tu es ds → SameTrace p q es ds
  equal_traces [] [] k start = tt
  equal_traces (e ∷ es) (d ∷ ds) (inl k) start =
      (k.0, equal_traces es ds k.1 (λ h g same a b. start h g same (part_more h e es a) (part_more g d ds b)))
  equal_traces (e ∷ es) (d ∷ ds) (inr k) start =
      let h : ℕ = e.request.object in let g : ℕ = d.request.object in
      absurd (k.apart (start h g k.same (part_has h e es refl) (part_has g d ds refl)))
  equal_traces _ _ k start = absurd k

  equal_front : (xs rest ds : List Event) → Alike (xs ++ rest) ds → AskAlike p q t u st tu xs → (ys : List Event) × IsFront ys ds × SameTrace p q xs ys
  equal_front [] rest ds k asks = ([], (ds, refl), tt)
  equal_front (e ∷ xs) rest [] k asks = absurd k
  equal_front (e ∷ xs) rest (d ∷ ds) (inl k) asks = more (equal_front xs rest ds k.1 asks.1)
    where
      more : ((ys : List Event) × IsFront ys ds × SameTrace p q xs ys) → (ys : List Event) × IsFront ys (d ∷ ds) × SameTrace p q (e ∷ xs) ys
      more (ys, (left, is), same) = (d ∷ ys, (left, ap (λ xs. d ∷ xs) is), (k.0, same))
  equal_front (e ∷ xs) rest (d ∷ ds) (inr k) asks = absurd (k.apart (asks.0 k.asks d.request.object k.same))

  equal_whole : (es ds : List Event) → Alike es ds → AskAlike p q t u st tu es → SameTrace p q es ds
  equal_whole [] [] k asks = tt
  equal_whole (e ∷ es) (d ∷ ds) (inl k) asks = (k.0, equal_whole es ds k.1 asks.1)
  equal_whole (e ∷ es) (d ∷ ds) (inr k) asks = absurd (k.apart (asks.0 k.asks d.request.object k.same))
  equal_whole _ _ k asks = absurd k

  alike_from : (es ds : List Event) → Alike es ds → AlikeFrom p q t u st tu es ds
  alike_from es ds k = record {
    equal = equal_traces es ds k;
    front = λ xs (front : IsFront xs es) asks. equal_front xs front.0 ds (subst (λ es. Alike es ds) (sym front.1) k) asks;
    whole = equal_whole es ds k;
  }

  -- variables that the text names: of one name, of their clients, and with equal entry values
  record Named (l k : Locals) (x y : ℕ) : Type 0 where
    pub name : variable_name p t x ≡ variable_name q u y
    pub value : value_at l x ≡ value_at k y
    pub below : Below (length (client_at p t.client).variables) (length (client_at q u.client).variables) x y

  pub solo_traces : SameText p q t u → (l k : Locals) → HasValues p t l → HasValues q u k → SameValues p q t u l k
      → Alike (solo (text_of p t).body l st).trace (solo (text_of q u).body k tu).trace
  solo_traces text l k many much values =
      let n : ℕ = length (client_at p t.client).variables in
      let m : ℕ = length (client_at q u.client).variables in
      let b : Statements = (text_of p t).body in
      let c : Statements = (text_of q u).body in
      let O : ℕ → ℕ → Type 0 = λ h g. object_name p h ≡ object_name q g in
      let V : ℕ → ℕ → Type 0 = λ x y. variable_name p t x ≡ variable_name q u y in
      let E : ℕ → ℕ → Type 0 = λ x y. value_at l x ≡ value_at k y in
      let below : SameStatements O (Below n m) b c = all_below O V n m b c text.body (variables_below p sound t) (variables_below q right u) in
      let valued : SameStatements O (λ x y. V x y × E x y) b c =
      both O (λ h g. Unit {0}) O V E (λ x y. V x y × E x y) (λ h g a b. a) (λ x y a b. (a, b)) b c text.body values in
      let whole : SameStatements O (Named l k) b c =
      both O O O (λ x y. V x y × E x y) (Below n m) (Named l k) (λ h g a b. a)
      (λ x y (a : V x y × E x y) b. record { name = a.0; value = a.1; below = b }) b c valued below in
      let twin : Twin p q (tree_of b l) (tree_of c k) =
      tree_twin p q (Named l k) n m
      (λ x y z (a : Named l k x y) (b : Named l k x z). one_variable q right u y z a.below.1 b.below.1 (sym a.name ∙ b.name))
      (λ x y z (a : Named l k x z) (b : Named l k y z). one_variable p sound t x y a.below.0 b.below.0 (a.name ∙ sym b.name))
      (λ x y (a : Named l k x y). a.below)
      b c whole l k (record { many = many; much = much; same = λ x y (a : Named l k x y). a.value }) in
      let k_trees : Alike (run (tree_of b l) st).trace (run (tree_of c k) tu).trace =
      twin_alike (tree_of b l) (tree_of c k) (blocks_ask_only p sound t l) (blocks_ask_only q right u k) twin st tu (λ h g same began. began) in
      subst (λ es. Alike es (solo c k tu).trace) (sym (ap (λ (o : alone.BlockResult). o.trace) (trees_agree b l st)))
      (subst (λ ds. Alike (run (tree_of b l) st).trace ds) (sym (ap (λ (o : alone.BlockResult). o.trace) (trees_agree c k tu))) k_trees)

  solo_alike : SameText p q t u → (l k : Locals) → HasValues p t l → HasValues q u k → SameValues p q t u l k
      → AlikeFrom p q t u st tu (solo (text_of p t).body l st).trace (solo (text_of q u).body k tu).trace
  solo_alike text l k many much values =
      alike_from (solo (text_of p t).body l st).trace (solo (text_of q u).body k tu).trace (solo_traces text l k many much values)

pub blocks_alike : BlocksAlike
blocks_alike p q sound right t u text l k many much values st tu = solo_alike p q sound right t u st tu text l k many much values

pub values_by_name : ValuesByName
values_by_name p q t u text l k values =
    let O : ℕ → ℕ → Type 0 = λ h g. object_name p h ≡ object_name q g in
    let V : ℕ → ℕ → Type 0 = λ x y. variable_name p t x ≡ variable_name q u y in
    both O O (λ h g. Unit {0}) V V (λ x y. value_at l x ≡ value_at k y) (λ h g a b. tt) (λ x y a b. values x y a)
    (text_of p t).body (text_of q u).body text.body text.body

-- A run changes the values of its client's variables, and not how many there are.

abbrev Long : Interaction → Type 0
Long (Done l) = length l ≡ most_variables
Long (Call r next) = Long next
Long (Query r next) = (v : ℤ) → Long (next v)

abbrev Stay : Next → Type 0
Stay next = (l : Locals) → length l ≡ most_variables → Long (next l)

turns_long : (k : ℕ) (body : Next → Next) (next : Next) → ((f : Next) → Stay f → Stay (body f)) → Stay next → Stay (turns k body next)
turns_long zero body next one later = later
turns_long (suc k) body next one later = one (turns k body next) (turns_long k body next one later)

if_long : (b : Bool) (t u : Interaction) → Long t → Long u → Long (if b then t else u)
if_long true t u a b = a
if_long false t u a b = b

meaning_long : (b : Statements) (next leaves : Next) → Stay next → Stay leaves → Stay (meaning b next leaves)
meaning_long end next leaves f g l e = f l e
meaning_long (command c rest) next leaves f g l e = meaning_long rest next leaves f g l e
meaning_long (query x c rest) next leaves f g l e = λ v. meaning_long rest next leaves f g (slice_set l x v) (length-set l x v ∙ e)
meaning_long (assign x a rest) next leaves f g l e = meaning_long rest next leaves f g (slice_set l x (expr_value l a)) (length-set l x (expr_value l a) ∙ e)
meaning_long (choose t has_else first other rest) next leaves f g l e =
    let later : Next = meaning rest next leaves in
    let after : Stay later = meaning_long rest next leaves f g in
    if_long (test_value l t) (meaning first later leaves l) (meaning other later leaves l)
    (meaning_long first later leaves after g l e) (meaning_long other later leaves after g l e)
meaning_long (again n body rest) next leaves f g l e =
    let later : Next = meaning rest next leaves in
    let after : Stay later = meaning_long rest next leaves f g in
    turns_long n (λ turn. meaning body turn later) later (λ turn h. meaning_long body turn later h after) after l e
meaning_long (leave rest) next leaves f g l e = g l e

run_long : (t : Interaction) (st : States) → Long t → length (run t st).locals ≡ most_variables
run_long (Done l) st e = e
run_long (Call r next) st e = run_long next (states_after st r) e
run_long (Query r next) st e = run_long (next (value_of (answer (st r.object) r))) (states_after st r) (e (value_of (answer (st r.object) r)))

solo_long : (b : Statements) (l : Locals) (st : States) → length l ≡ most_variables → length (solo b l st).locals ≡ most_variables
solo_long b l st e =
    ap (λ (o : alone.BlockResult). length o.locals) (trees_agree b l st) ∙ run_long (tree_of b l) st (meaning_long b Done Done (λ l e. e) (λ l e. e) l e)

entries_long : (p : ProgramShape) (order : List Ticket) (ls : ℕ → Locals) (st : States) → ((c : ℕ) → length (ls c) ≡ most_variables)
    → AllByRecursion
    (λ (s : SerialBlock). (length s.entry ≡ most_variables) × (s.trace ≡ (solo (text_of p s.ticket).body s.entry s.starts).trace)) (serial_from p ls st order).places
entries_long p [] ls st e = tt
entries_long p (t ∷ ts) ls st e =
    let o : alone.BlockResult = solo (text_of p t).body (ls t.client) st in
    ((e t.client, refl), entries_long p ts (put ls t.client o.locals) o.states (λ c. by_case c (t.client == c)))
  where
    by_case : (c : ℕ) (b : Bool) → length (if b then (solo (text_of p t).body (ls t.client) st).locals else ls c) ≡ most_variables
    by_case c true = solo_long (text_of p t).body (ls t.client) st (e t.client)
    by_case c false = e c

few_variables : (p : ProgramShape) → IsSound p → (c : ℕ) → length (client_at p c).variables ≤ most_variables
few_variables p sound c =
    all_at (λ (c : ClientShape). length c.variables ≤ most_variables) p.clients c no_client
    (each_map (λ (c : ClientShape) (f : IsSoundClient p.objects c). f.variables) p.clients sound.each) (omega arith)

abbrev pub IsPlaceOf : ProgramShape → SerialBlock → Type 0
IsPlaceOf p s = HasValues p s.ticket s.entry × (s.trace ≡ (solo (text_of p s.ticket).body s.entry s.starts).trace)

pub places_of : (p : ProgramShape) → IsSound p → (order : List Ticket) → AllByRecursion (IsPlaceOf p) (serial p order).places
places_of p sound order =
    each_map
    (λ (s : SerialBlock) (e : (length s.entry ≡ most_variables) × (s.trace ≡ (solo (text_of p s.ticket).body s.entry s.starts).trace)).
    let few = few_variables p sound s.ticket.client in (omega (arith, few, e.0), e.1))
    (serial p order).places
    (entries_long p order (λ _. zeros) (declared_states p) (λ c. refl))

abbrev ArePlacesAlike : ProgramShape → ProgramShape → SerialBlock → SerialBlock → Type 0
ArePlacesAlike p q a b =
    SameText p q a.ticket b.ticket → SameValues p q a.ticket b.ticket a.entry b.entry → AlikeFrom p q a.ticket b.ticket a.starts b.starts a.trace b.trace

two_places : (p q : ProgramShape) → IsSound p → IsSound q → (a b : SerialBlock) → IsPlaceOf p a → IsPlaceOf q b → ArePlacesAlike p q a b
two_places p q sound right a b here there text values =
    subst (λ es. AlikeFrom p q a.ticket b.ticket a.starts b.starts es b.trace) (sym here.1)
    (subst (λ ds. AlikeFrom p q a.ticket b.ticket a.starts b.starts (solo (text_of p a.ticket).body a.entry a.starts).trace ds) (sym there.1)
    (blocks_alike p q sound right a.ticket b.ticket text a.entry b.entry here.0 there.0 values a.starts b.starts))

pub places_alike : PlacesAlike
places_alike p q sound right order other =
    each_map {P = IsPlaceOf p} {Q = λ a. AllByRecursion (ArePlacesAlike p q a) (serial q other).places}
    (λ a here.
    each_map {P = IsPlaceOf q} {Q = ArePlacesAlike p q a} (λ b there. two_places p q sound right a b here there)
    (serial q other).places (places_of q right other))
    (serial p order).places (places_of p sound order)
