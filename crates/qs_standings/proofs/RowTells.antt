-- A row tells the configuration: each part of it is as long in any row of the program or says how long it is, so two
-- rows are equal only where all their parts are; and a variable that no text names is 0. By this what was seen under a
-- row need not be looked at again. It goes part by part, with the rest of the rows in hand.
use Rattle.std.proofs.Common.{◌≡◌, ℕ, List, [], ◌∷◌, ◌++◌, length, flat_map, refl, sym, ap, ap₂, ◌∙◌, ℤ, pos, append_assoc, append-nil, arith, ◌<◌, ◌+◌, suc, get_or, take, drop, replicate, subst, length-take}
use Rattle.qs_standings.proofs.Common.{account, buffer, client_at, Configuration, Content, grid, IsSound, Locals, most_clients, no_state, ProgramShape, State, States, Ticket, zeros}
use Rattle.qs_objects.specs.Objects.{AreRowsOf, IsInRange}
use Rattle.qs_objects.specs.audit.Rows.{join_rows}
use Rattle.qs_objects.proofs.GridRows.{equal_long, rows_tell}
use Rattle.qs_meaning.specs.Configurations.{AreNamedAlone}
use Rattle.qs_meaning.proofs.StateRanges.{orders_keep_ranges}
use Rattle.qs_meaning.proofs.Unnamed.{unnamed_stay_zero}
use Rattle.qs_standings.specs.Standings.{IsStanding, RowShape, StandingShape, configuration_in, content_row, counted, named_from, row_of, state_row}
use Rattle.qs_standings.proofs.Lists.{same_list}

-- the first one, and the rest
head : {X : Type 0} {x y : X} {xs ys : List X} → ◌≡◌ {A = List X} (x ∷ xs) (y ∷ ys) → x ≡ y
head e = cc

tail : {X : Type 0} {x y : X} {xs ys : List X} → ◌≡◌ {A = List X} (x ∷ xs) (y ∷ ys) → xs ≡ ys
tail e = cc

-- an element and the rest of a row, from a row
abbrev Tells : {X : Type 0} → (X → List ℤ) → Type 0
Tells {X = X} f = (x y : X) (us vs : List ℤ) → f x ++ us ≡ f y ++ vs → (x ≡ y) × (us ≡ vs)

pos_is : {m n : ℕ} → pos m ≡ pos n → m ≡ n
pos_is e = cc

counted_tells : Tells counted
counted_tells xs ys us vs e = equal_long xs ys us vs (pos_is (head e)) (tail e)

content_tells : (c d : Content) (us vs : List ℤ) → IsInRange c → IsInRange d → content_row c ++ us ≡ content_row d ++ vs → (c ≡ d) × (us ≡ vs)
content_tells (account b) (account c) us vs x y e = (ap account (head (tail e)), tail (tail e))
content_tells (buffer k xs) (buffer m ys) us vs x y e =
    let rest = counted_tells xs ys us vs (tail (tail e)) in (ap₂ buffer (pos_is (head (tail e))) rest.0, rest.1)
content_tells (grid k rows) (grid l others) us vs x y e =
    let rest = counted_tells (join_rows rows) (join_rows others) us vs (tail (tail (tail e))) in
    let wide = pos_is (head (tail (tail e))) in
    let same = rows_tell k rows others x.4 (subst (λ m. AreRowsOf m others) (sym wide) y.4) (pos_is (head (tail e))) rest.0 in
    ((λ i. grid (wide i) (same i)), rest.1)
content_tells _ _ us vs x y e = absurd (let h = pos_is (head e) in omega (arith, h))

state_tells : (s t : State) (us vs : List ℤ) → IsInRange s.content → IsInRange t.content → state_row s ++ us ≡ state_row t ++ vs → (s ≡ t) × (us ≡ vs)
state_tells s t us vs x y e =
    let rest = content_tells s.content t.content us vs x y (tail e) in let refused = head e in
    ((λ i. record { content = rest.0 i; refused = refused i }), rest.1)

-- all objects in range, each at its place
abbrev pub AllInRange : List State → Type 0
AllInRange ss = (h : ℕ) → h < length ss → IsInRange (get_or ss h no_state).content

pub states_tell : (ss ts : List State) (us vs : List ℤ) → AllInRange ss → AllInRange ts → length ss ≡ length ts
    → flat_map state_row ss ++ us ≡ flat_map state_row ts ++ vs → (ss ≡ ts) × (us ≡ vs)
states_tell [] [] us vs x y long e = (refl, e)
states_tell [] (t ∷ ts) us vs x y long e = absurd (let h : 0 ≡ length (t ∷ ts) = long in omega (arith, h))
states_tell (s ∷ ss) [] us vs x y long e = absurd (let h : length (s ∷ ss) ≡ 0 = long in omega (arith, h))
states_tell (s ∷ ss) (t ∷ ts) us vs x y long e =
    let first = state_tells s t (flat_map state_row ss ++ us) (flat_map state_row ts ++ vs) (x 0 (omega arith)) (y 0 (omega arith))
    (sym (append_assoc (state_row s) (flat_map state_row ss) us) ∙ (e ∙ append_assoc (state_row t) (flat_map state_row ts) vs)) in
    let rest = states_tell ss ts us vs (λ h less. x (suc h) (omega (arith, less))) (λ h less. y (suc h) (omega (arith, less)))
    (let h : length (s ∷ ss) ≡ length (t ∷ ts) = long in omega (arith, h)) first.1 in
    (ap₂ (λ z zs. z ∷ zs) first.0 rest.0, rest.1)

-- the variables of two clients that are the same as far as they are named
same_named : (p : ProgramShape) (c : ℕ) (l m : Locals) → AreNamedAlone p c l → AreNamedAlone p c m
    → take (length (client_at p c).variables) l ≡ take (length (client_at p c).variables) m → l ≡ m
same_named p c l m a b e = a.named ∙ (ap (λ xs. xs ++ drop (length (client_at p c).variables) zeros) e ∙ sym b.named)

-- each client's variables, from a client on
abbrev pub NamedFrom : ProgramShape → ℕ → List Locals → Type 0
NamedFrom p c ls = (i : ℕ) → i < length ls → AreNamedAlone p (c + i) (get_or ls i zeros)

first_named : (p : ProgramShape) (c : ℕ) (l : Locals) (ls : List Locals) → NamedFrom p c (l ∷ ls) → AreNamedAlone p c l
first_named p c l ls h = subst (λ k. AreNamedAlone p k l) (omega arith) (h 0 (omega arith))

rest_named : (p : ProgramShape) (c : ℕ) (l : Locals) (ls : List Locals) → NamedFrom p c (l ∷ ls) → NamedFrom p (suc c) ls
rest_named p c l ls h i less = subst (λ k. AreNamedAlone p k (get_or ls i zeros)) (omega arith) (h (suc i) (omega (arith, less)))

pub named_tell : (p : ProgramShape) (c : ℕ) (ls ms : List Locals) (us vs : List ℤ) → length ls ≡ length ms → NamedFrom p c ls → NamedFrom p c ms
    → named_from p c ls ++ us ≡ named_from p c ms ++ vs → (ls ≡ ms) × (us ≡ vs)
named_tell p c [] [] us vs long a b e = (refl, e)
named_tell p c [] (m ∷ ms) us vs long a b e = absurd (let h : 0 ≡ length (m ∷ ms) = long in omega (arith, h))
named_tell p c (l ∷ ls) [] us vs long a b e = absurd (let h : length (l ∷ ls) ≡ 0 = long in omega (arith, h))
named_tell p c (l ∷ ls) (m ∷ ms) us vs long a b e =
    let n = length (client_at p c).variables in
    let first = equal_long (take n l) (take n m) (named_from p (suc c) ls ++ us) (named_from p (suc c) ms ++ vs)
    (rw (length-take, length-take) (rw ((first_named p c l ls a).long, (first_named p c m ms b).long) refl))
    (sym (append_assoc (take n l) (named_from p (suc c) ls) us) ∙ (e ∙ append_assoc (take n m) (named_from p (suc c) ms) vs)) in
    let rest = named_tell p (suc c) ls ms us vs (let h : length (l ∷ ls) ≡ length (m ∷ ms) = long in omega (arith, h)) (rest_named p c l ls a) (rest_named p c m ms b) first.1 in
    (ap₂ (λ z zs. z ∷ zs) (same_named p c l m (first_named p c l ls a) (first_named p c m ms b) first.0) rest.0, rest.1)

module _ (p : ProgramShape) (front : List Ticket) (sound : IsSound p) where
  pub named : (s : StandingShape) → IsStanding p front s → NamedFrom p 0 s.locals
  named s is i less =
      subst (λ k. AreNamedAlone p k (get_or s.locals i zeros)) (let z : i ≡ 0 + i = omega arith in z)
      (subst (AreNamedAlone p i) (sym (ap (λ (g : Configuration). g.locals i) is.stands)) (unnamed_stay_zero p sound s.order i))

  pub in_range : (s : StandingShape) → IsStanding p front s → AllInRange s.states
  in_range s is h less = subst (λ (st : States). IsInRange (st h).content) (sym (ap (λ (g : Configuration). g.states) is.stands)) (orders_keep_ranges p sound s.order h)

-- equal rows are of equal configurations
pub standings_tell : (p : ProgramShape) → IsSound p → (front other : List Ticket) (s t : StandingShape) → IsStanding p front s → IsStanding p other t
    → row_of p s ≡ row_of p t → configuration_in s ≡ configuration_in t
standings_tell p sound front other s t a b e =
    let begun : s.begun ≡ t.begun =
    (equal_long s.begun t.begun (drop (length s.begun) (replicate most_clients 0)) (drop (length t.begun) (replicate most_clients 0)) (a.begun ∙ sym b.begun)
    (ap (λ (r : RowShape). r.begun) e)).0 in
    let second = named_tell p 0 s.locals t.locals (flat_map state_row s.states) (flat_map state_row t.states) (a.locals ∙ sym b.locals) (named p front sound s a) (named p other sound t b) (ap (λ (r : RowShape). r.numbers) e) in
    let third = states_tell s.states t.states [] [] (in_range p front sound s a) (in_range p other sound t b) (a.states ∙ sym b.states)
    (append-nil (flat_map state_row s.states) ∙ (second.1 ∙ sym (append-nil (flat_map state_row t.states)))) in
    λ i. configuration_in (record { order = s.order; begun = begun i; locals = second.0 i; states = third.0 i })

module _ (p : ProgramShape) (front : List Ticket) (sound : IsSound p) where
  pub row_tells : (s t : StandingShape) → IsStanding p front s → IsStanding p front t → row_of p s ≡ row_of p t → configuration_in s ≡ configuration_in t
  row_tells s t a b e = standings_tell p sound front front s t a b e

-- and equal configurations of as many clients and objects have equal rows
pub same_row : (p : ProgramShape) (s t : StandingShape) → s.begun ≡ t.begun → s.locals ≡ t.locals → s.states ≡ t.states → row_of p s ≡ row_of p t
same_row p s t a b c = λ i. row_of p (record { order = s.order; begun = a i; locals = b i; states = c i })

-- equal configurations have equal rows
pub same_configurations : (p : ProgramShape) (front : List Ticket) (s t : StandingShape) → IsStanding p front s → IsStanding p front t → configuration_in s ≡ configuration_in t → row_of p s ≡ row_of p t
same_configurations p front s t a b e =
    same_row p s t
    (same_list 0 s.begun t.begun (a.begun ∙ sym b.begun) (λ i. ap (λ (g : Configuration). g.begun i) e))
    (same_list zeros s.locals t.locals (a.locals ∙ sym b.locals) (λ i. ap (λ (g : Configuration). g.locals i) e))
    (same_list no_state s.states t.states (a.states ∙ sym b.states) (λ i. ap (λ (g : Configuration). g.states i) e))
