-- The text of an end tells its objects and the variables that texts name, hence the outcome: it is cut field by field,
-- and all but numbers is the same in two ends, or differs at once.
use Rattle.std.proofs.Common.{◌≡◌, ◌<◌, ◌≤◌, ◌++◌, ℕ, List, [], codes, drop, length, get_or, sym, ap, arith, inl, inr, ℤ, pos, subst}
use Rattle.std.specs.Fmt.{signed_decimal}
use Rattle.std.specs.List.{AllByRecursion}
use Rattle.qs_objects.specs.declared.held.Ticket.{Ticket}
use Rattle.qs_objects.specs.audit.Act.{Content, State, account, buffer, grid}
use Rattle.qs_objects.specs.audit.Objects.{kind_of, values_of}
use Rattle.qs_objects.specs.Objects.{AreRowsOf, IsInRange}
use Rattle.qs_objects.specs.audit.Rows.{join_rows}
use Rattle.qs_objects.proofs.GridRows.{rows_tell}
use Rattle.qs_program.specs.audit.Numbering.{Name}
use Rattle.qs_program.specs.audit.Program.{ProgramShape, client_at, object_at}
use Rattle.qs_program.specs.Sound.{IsSound}
use Rattle.qs_program.specs.audit.Values.{Locals}
use Rattle.qs_meaning.specs.audit.Serial.{zeros}
use Rattle.qs_outcomes.specs.Outcomes.{IsListedAfter}
use Rattle.qs_standings.specs.Standings.{StandingShape}
use Rattle.qs_text.specs.TellApart.{AreSame, AreWords, IsEndOfWords, IsOfWords, IsWord}
use Rattle.qs_text.specs.audit.Texts.{texts_up_to}
use Rattle.qs_text.specs.audit.Words.{no_state}
use Rattle.qs_text.proofs.SameEnds.{in_range, same_outcome}
use Rattle.qs_text.proofs.TellApart.{IsBehind, cancel, number_tells, regroup, texts_tell, values_tell}
use Rattle.qs_json.specs.EndsJson.{EndsJsonTellApart}
use Rattle.qs_json.specs.OutcomesJson.{client_json, object_json}
use Rattle.qs_json.specs.audit.Pieces.{array_up_to, comma_at, element, field, first_field, quoted}
use Rattle.qs_json.specs.audit.RunJson.{content_json, kind_json, state_json, values_json}
use Rattle.qs_json.specs.audit.Variables.{variable_json, variables_json}

-- the byte at a place of both
byte : (n : ℕ) (us vs : List ℕ) → us ≡ vs → get_or us n 0 ≡ get_or vs n 0
byte n us vs e = ap (λ l. get_or l n 0) e

-- a number in a field of this name, with what comes behind it
module _ (name : List ℕ) where
  abbrev head : List ℕ
  head = codes ",\"" ++ name ++ codes "\":"

  number_in_field : (y z : ℤ) (us vs : List ℕ) → IsWord y → IsWord z → IsBehind us → IsBehind vs
      → field name (signed_decimal y) ++ us ≡ field name (signed_decimal z) ++ vs → (y ≡ z) × (us ≡ vs)
  number_in_field y z us vs a b p q e =
      number_tells y z us vs a b p q
      (cancel head (signed_decimal y ++ us) (signed_decimal z ++ vs) (regroup head (signed_decimal y) head (signed_decimal z) us vs e))

-- a size is one of 64 bits
size_is_word : (n : ℕ) → n ≤ 1024 → IsWord (pos n)
size_is_word n less = record { sfits = omega (arith, less) }

pos_is : {m n : ℕ} → ◌≡◌ {A = ℤ} (pos m) (pos n) → m ≡ n
pos_is e = cc

values_in_field : (xs ys : List ℤ) (us vs : List ℕ) → AllByRecursion IsWord xs → AllByRecursion IsWord ys
    → values_json xs ++ us ≡ values_json ys ++ vs → (xs ≡ ys) × (us ≡ vs)
values_in_field xs ys us vs a b e = values_tell 44 (omega arith) xs ys us vs a b (ap (drop 10) e)

module _ (c d : Content) (us vs : List ℕ) where
  abbrev ContentTells : Type 0
  ContentTells =
      IsInRange c → IsInRange d → AllByRecursion IsWord (values_of c) → AllByRecursion IsWord (values_of d) → IsBehind us → IsBehind vs
      → content_json (kind_of c) (values_of c) ++ us ≡ content_json (kind_of d) (values_of d) ++ vs → (c ≡ d) × (us ≡ vs)

accounts_tell : (b c : ℤ) (us vs : List ℕ) → ContentTells (account b) (account c) us vs
accounts_tell b c us vs x y v w p q e =
    let balance = number_in_field (codes "balance") b c us vs v.0 w.0 p q
    (cancel (kind_json (codes "account")) (field (codes "balance") (signed_decimal b) ++ us) (field (codes "balance") (signed_decimal c) ++ vs) e) in
    (ap account balance.0, balance.1)

buffers_tell : (k m : ℕ) (xs ys : List ℤ) (us vs : List ℕ) → ContentTells (buffer k xs) (buffer m ys) us vs
buffers_tell k m xs ys us vs x y v w p q e =
    let own = field (codes "capacity") (signed_decimal (pos k)) in let its = field (codes "capacity") (signed_decimal (pos m)) in
    let size = number_in_field (codes "capacity") (pos k) (pos m) (values_json xs ++ us) (values_json ys ++ vs) (size_is_word k x.1) (size_is_word m y.1)
    (inl (omega arith)) (inl (omega arith))
    (cancel (kind_json (codes "buffer")) (own ++ (values_json xs ++ us)) (its ++ (values_json ys ++ vs))
    (regroup (kind_json (codes "buffer") ++ own) (values_json xs) (kind_json (codes "buffer") ++ its) (values_json ys) us vs e)) in
    let values = values_in_field xs ys us vs v w size.1 in
    ((λ i. buffer (pos_is size.0 i) (values.0 i)), values.1)

grids_tell : (k l : ℕ) (rows others : List (List ℤ)) (us vs : List ℕ) → ContentTells (grid k rows) (grid l others) us vs
grids_tell k l rows others us vs x y v w p q e =
    let kind = kind_json (codes "grid") in
    let high = λ (rows : List (List ℤ)). field (codes "rows") (signed_decimal (pos (length rows))) in
    let wide = λ (k : ℕ). field (codes "columns") (signed_decimal (pos k)) in
    let own = values_json (join_rows rows) in let its = values_json (join_rows others) in
    let many = number_in_field (codes "rows") (pos (length rows)) (pos (length others)) (wide k ++ (own ++ us)) (wide l ++ (its ++ vs))
    (size_is_word (length rows) (omega (arith, x.1))) (size_is_word (length others) (omega (arith, y.1))) (inl (omega arith)) (inl (omega arith))
    (cancel kind (high rows ++ (wide k ++ (own ++ us))) (high others ++ (wide l ++ (its ++ vs)))
    (regroup (kind ++ high rows) (wide k) (kind ++ high others) (wide l) (own ++ us) (its ++ vs)
    (regroup (kind ++ high rows ++ wide k) own (kind ++ high others ++ wide l) its us vs e))) in
    let columns = number_in_field (codes "columns") (pos k) (pos l) (own ++ us) (its ++ vs)
    (size_is_word k (omega (arith, x.3))) (size_is_word l (omega (arith, y.3))) (inl (omega arith)) (inl (omega arith)) many.1 in
    let values = values_in_field (join_rows rows) (join_rows others) us vs v w columns.1 in
    let same = rows_tell k rows others x.4 (subst (λ m. AreRowsOf m others) (sym (pos_is columns.0)) y.4) (pos_is many.0) values.0 in
    ((λ i. grid (pos_is columns.0 i) (same i)), values.1)

content_tells : (c d : Content) (us vs : List ℕ) → ContentTells c d us vs
content_tells (account b) (account c) us vs x y v w p q e = accounts_tell b c us vs x y v w p q e
content_tells (buffer k xs) (buffer m ys) us vs x y v w p q e = buffers_tell k m xs ys us vs x y v w p q e
content_tells (grid k rows) (grid l others) us vs x y v w p q e = grids_tell k l rows others us vs x y v w p q e
content_tells _ _ us vs x y v w p q e = absurd (let h = byte 9 _ _ e in omega (arith, h))

state_tells : (name : List ℕ) (s t : State) (us vs : List ℕ) → IsInRange s.content → IsInRange t.content → IsOfWords s → IsOfWords t
    → state_json name s ++ us ≡ state_json name t ++ vs → (s ≡ t) × (us ≡ vs)
state_tells name s t us vs x y v w e =
    let named = first_field (codes "object") (quoted name) in
    let own = content_json (kind_of s.content) (values_of s.content) in let its = content_json (kind_of t.content) (values_of t.content) in
    let left = field (codes "refused") (signed_decimal s.refused) in let right = field (codes "refused") (signed_decimal t.refused) in
    let content = content_tells s.content t.content (left ++ (codes "}" ++ us)) (right ++ (codes "}" ++ vs)) x y v.values w.values (inl (omega arith)) (inl (omega arith))
    (cancel named (own ++ (left ++ (codes "}" ++ us))) (its ++ (right ++ (codes "}" ++ vs)))
    (regroup named own named its (left ++ (codes "}" ++ us)) (right ++ (codes "}" ++ vs))
    (regroup (named ++ own) left (named ++ its) right (codes "}" ++ us) (codes "}" ++ vs)
    (regroup (named ++ own ++ left) (codes "}") (named ++ its ++ right) (codes "}") us vs e)))) in
    let refused = number_in_field (codes "refused") s.refused t.refused (codes "}" ++ us) (codes "}" ++ vs) v.refused w.refused (inr (omega arith)) (inr (omega arith)) content.1 in
    ((λ i. record { content = content.0 i; refused = refused.0 i }), ap (drop 1) refused.1)

-- the elements of an array, each of which tells what it is of, whatever comes behind it
module _ (f g : ℕ → List ℕ) (Same : ℕ → Type 0) (n : ℕ)
    (tells : (i : ℕ) → i < n → (us vs : List ℕ) → f i ++ us ≡ g i ++ vs → Same i × (us ≡ vs)) where
  element_tells : (i : ℕ) → i < n → (us vs : List ℕ) → Unit {0} → Unit {0} → element f i ++ us ≡ element g i ++ vs → Same i × (us ≡ vs)
  element_tells i less us vs x y e =
      tells i less us vs (cancel (comma_at i) (f i ++ us) (g i ++ vs) (regroup (comma_at i) (f i) (comma_at i) (g i) us vs e))

  array_tells : (us vs : List ℕ) → array_up_to n f ++ us ≡ array_up_to n g ++ vs → ((i : ℕ) → i < n → Same i) × (us ≡ vs)
  array_tells us vs e =
      let all = texts_tell (element f) (element g) Same (λ us. Unit {0}) (λ i us. (tt, tt)) n element_tells n (omega arith) (codes "]" ++ us) (codes "]" ++ vs) tt tt
      (cancel (codes "[") (texts_up_to n (element f) ++ (codes "]" ++ us)) (texts_up_to n (element g) ++ (codes "]" ++ vs))
      (regroup (codes "[" ++ texts_up_to n (element f)) (codes "]") (codes "[" ++ texts_up_to n (element g)) (codes "]") us vs e)) in
      (all.0, ap (drop 1) all.1)

module _ (names : List Name) (l m : Locals) (a : AreWords (length names) l) (b : AreWords (length names) m) where
  variable_tells : (x : ℕ) → x < length names → (us vs : List ℕ) → variable_json names l x ++ us ≡ variable_json names m x ++ vs
      → (get_or l x (pos 0) ≡ get_or m x (pos 0)) × (us ≡ vs)
  variable_tells x less us vs e =
      let named = first_field (codes "variable") (quoted (get_or names x [])) in
      let own = field (codes "value") (signed_decimal (get_or l x (pos 0))) in let its = field (codes "value") (signed_decimal (get_or m x (pos 0))) in
      let value = number_in_field (codes "value") (get_or l x (pos 0)) (get_or m x (pos 0)) (codes "}" ++ us) (codes "}" ++ vs) (a x less) (b x less)
      (inr (omega arith)) (inr (omega arith))
      (cancel named (own ++ (codes "}" ++ us)) (its ++ (codes "}" ++ vs))
      (regroup named own named its (codes "}" ++ us) (codes "}" ++ vs)
      (regroup (named ++ own) (codes "}") (named ++ its) (codes "}") us vs e))) in
      (value.0, ap (drop 1) value.1)

  variables_tell : (us vs : List ℕ) → variables_json names l ++ us ≡ variables_json names m ++ vs → AreSame (length names) l m × (us ≡ vs)
  variables_tell us vs e =
      array_tells (variable_json names l) (variable_json names m) (λ x. get_or l x (pos 0) ≡ get_or m x (pos 0)) (length names) variable_tells us vs
      (ap (drop 13) e)

module _ (p : ProgramShape) (sound : IsSound p) (front other : List Ticket) (s t : StandingShape) (a : IsListedAfter p front s)
    (b : IsListedAfter p other t) (v : IsEndOfWords p s) (w : IsEndOfWords p t) where
  abbrev SameObject : ℕ → Type 0
  SameObject h = get_or s.states h no_state ≡ get_or t.states h no_state

  abbrev SameClient : ℕ → Type 0
  SameClient c = AreSame (length (client_at p c).variables) (get_or s.locals c zeros) (get_or t.locals c zeros)

  object_tells : (h : ℕ) → h < length p.objects → (us vs : List ℕ) → object_json p s h ++ us ≡ object_json p t h ++ vs → SameObject h × (us ≡ vs)
  object_tells h less us vs e =
      state_tells (object_at p h).name (get_or s.states h no_state) (get_or t.states h no_state) us vs (in_range p sound front s a h) (in_range p sound other t b h)
      (v.objects h less) (w.objects h less) e

  client_tells : (c : ℕ) → c < length p.clients → (us vs : List ℕ) → client_json p s c ++ us ≡ client_json p t c ++ vs → SameClient c × (us ≡ vs)
  client_tells c less us vs e =
      let named = first_field (codes "client") (quoted (client_at p c).name) in let names = (client_at p c).variables in
      let own = get_or s.locals c zeros in let its = get_or t.locals c zeros in
      let both = variables_tell names own its (v.clients c less) (w.clients c less) (codes "}" ++ us) (codes "}" ++ vs)
      (cancel named (variables_json names own ++ (codes "}" ++ us)) (variables_json names its ++ (codes "}" ++ vs))
      (regroup named (variables_json names own) named (variables_json names its) (codes "}" ++ us) (codes "}" ++ vs)
      (regroup (named ++ variables_json names own) (codes "}") (named ++ variables_json names its) (codes "}") us vs e))) in
      (both.0, ap (drop 1) both.1)

  abbrev objects : StandingShape → List ℕ
  objects x = array_up_to (length p.objects) (object_json p x)

  abbrev clients : StandingShape → List ℕ
  clients x = array_up_to (length p.clients) (client_json p x)

  pub end_tells : first_field (codes "states") (objects s) ++ field (codes "clients") (clients s) ++ codes "}\n"
      ≡ first_field (codes "states") (objects t) ++ field (codes "clients") (clients t) ++ codes "}\n"
      → ((h : ℕ) → h < length p.objects → SameObject h) × ((c : ℕ) → c < length p.clients → SameClient c)
  end_tells e =
      let own = field (codes "clients") (clients s) in let its = field (codes "clients") (clients t) in
      let first = array_tells (object_json p s) (object_json p t) SameObject (length p.objects) object_tells (own ++ codes "}\n") (its ++ codes "}\n")
      (ap (drop 10) (regroup (first_field (codes "states") (objects s)) own (first_field (codes "states") (objects t)) its (codes "}\n") (codes "}\n") e)) in
      let second = array_tells (client_json p s) (client_json p t) SameClient (length p.clients) client_tells (codes "}\n") (codes "}\n") (ap (drop 11) first.1) in
      (first.0, second.0)

pub ends_tell_apart : EndsJsonTellApart
ends_tell_apart p sound front other s t a b v w e =
    let same = end_tells p sound front other s t a b v w e in same_outcome p sound front other s t a b same.0 same.1
