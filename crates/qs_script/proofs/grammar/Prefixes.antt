-- What a reader makes of the tokens so far, whatever follows them: it refuses one of them, it has read a whole, or it
-- has begun and has a way to go on to a whole. That each reader does one of the three, and what readers joined to one
-- another do, is all that the proof of the place of a fault of form stands on. The lists go by induction on the tokens
-- so far.
use Rattle.std.proofs.Common.{◌≡◌, ◌⊎◌, ℕ, zero, suc, ◌<◌, ◌≤◌, inl, inr, List, [], ◌∷◌, ◌++◌, length, refl, ap, ◌∙◌, arith, append_assoc, Option, Some, None, Result, Ok, Err, subst, length-append}
use Rattle.qs_script.specs.declared.tokens.token.Token.{Token}
use Rattle.qs_script.specs.grammar.Reading.{Read, ◌>>=◌, Loop, after, stop_or, then_more, many_at, run, one, list_loop}
use Rattle.qs_script.proofs.grammar.Loops.{Runs, run_is, runs_stop, runs_no_element, runs_element}

-- how many tokens are left
abbrev pub left_of : {A : Type 0} → Read A → ℕ
left_of (Ok x) = length x.1
left_of (Err left) = left

-- of n tokens at least one is read, unless no reading goes on
abbrev pub Eaten : {A : Type 0} → ℕ → Read A → Type 0
Eaten n (Ok x) = length x.1 < n
Eaten n (Err left) = left ≤ n

-- any tokens may follow
abbrev pub Any : List Token → Type 0
Any ts = Unit {0}

-- what is made of the tokens so far, where g is what is read if others follow them
pub data Status {A : Type 0} (End : List Token → Type 0) (g : List Token → Read A) : Type 0 where
  refused : (z : Token) (zs : List Token) → ((ws : List Token) → g ws ≡ Err (length (z ∷ zs ++ ws))) → Status End g
  whole : (a : A) (zs : List Token) → ((ws : List Token) → g ws ≡ Ok (a, zs ++ ws)) → Status End g
  begun : ((ws : List Token) → left_of (g ws) ≤ length ws) → (rest : List Token) (a : A) → ((tail : List Token) → End tail → g (rest ++ tail) ≡ Ok (a, tail)) → Status End g

-- a reader that leaves no more than it is given, and does one of the three with any tokens so far
pub record Careful {A : Type 0} (p : List Token → Read A) : Type 0 where
  pub short : (ts : List Token) → left_of (p ts) ≤ length ts
  pub status : (us : List Token) → Status Any (λ ws. p (us ++ ws))

-- what reads the elements of a list: it takes a token, and does one of the three with any tokens so far but none
pub record Element {A : Type 0} (p : List Token → Read A) : Type 0 where
  pub eats : (ts : List Token) → Eaten (length ts) (p ts)
  pub status : (u : Token) (us : List Token) → Status Any (λ ws. p (u ∷ us ++ ws))

same : {A : Type 0} (End : List Token → Type 0) (g k : List Token → Read A) → ((ws : List Token) → k ws ≡ g ws) → Status End g → Status End k
same End g k e (refused z zs h) = refused z zs (λ ws. e ws ∙ h ws)
same End g k e (whole a zs h) = whole a zs (λ ws. e ws ∙ h ws)
same End g k e (begun short rest a h) = begun (λ ws. rw (e ws) (short ws)) rest a (λ tail t. e (rest ++ tail) ∙ h tail t)

pub past : {A : Type 0} (r : Read A) (u : Token) (ts : List Token) → left_of r ≤ length ts → Eaten (length (u ∷ ts)) r
past (Ok x) u ts h = omega (arith, h)
past (Err left) u ts h = omega (arith, h)

pub eaten_short : {A : Type 0} (r : Read A) (n : ℕ) → Eaten n r → left_of r ≤ n
eaten_short (Ok x) n h = omega (arith, h)
eaten_short (Err left) n h = h

-- a reader that looks at the first token, and a whole that it reads
pub by_first : {A : Type 0} (p : List Token → Read A) (short : (ts : List Token) → left_of (p ts) ≤ length ts) (word : List Token) (a : A) → ((tail : List Token) → p (word ++ tail) ≡ Ok (a, tail)) → ((u : Token) (us : List Token) → Status Any (λ ws. p (u ∷ us ++ ws))) → Careful p
by_first {A} p short word a ends status = record { short = short; status = at } where
  at : (us : List Token) → Status Any (λ ws. p (us ++ ws))
  at [] = begun short word a (λ tail t. ends tail)
  at (u ∷ us) = status u us

nothing_left : (zs : List Token) → length (zs ++ []) ≤ 0 → zs ≡ []
nothing_left [] h = refl
nothing_left (z ∷ zs) h = absurd (omega (arith, h))

-- a whole that a reader reads, whatever follows
starts_by : {A : Type 0} (p : List Token → Read A) → left_of (p []) ≤ 0 → Status Any p → (word : List Token) × (a : A) × ((tail : List Token) → p (word ++ tail) ≡ Ok (a, tail))
starts_by p short (refused z zs h) = absurd (omega (arith, rw (h []) at short))
starts_by p short (whole a zs h) = ([], a, λ tail. h tail ∙ ap (λ us. Ok (a, us ++ tail)) (nothing_left zs (rw (h []) at short)))
starts_by p short (begun less rest a h) = (rest, a, λ tail. h tail tt)

pub starts : {A : Type 0} (p : List Token → Read A) → Careful p → (word : List Token) × (a : A) × ((tail : List Token) → p (word ++ tail) ≡ Ok (a, tail))
starts p c = starts_by p (c.short []) (c.status [])

-- what is read is the value, and no token
pub said : {A : Type 0} (a : A) → Careful (λ ts. Ok (a, ts))
said a = record { short = λ ts. omega arith; status = λ us. whole a us (λ ws. refl) }

-- one reader after another
module _ {A B : Type 0} (p : List Token → Read A) (f : A × List Token → Read B) (c : Careful p) (d : (a : A) → Careful (λ ts. f (a, ts))) where
  then_short : (n : ℕ) (r : Read A) → left_of r ≤ n → left_of (r >>= f) ≤ n
  then_short n (Err left) h = h
  then_short n (Ok x) h = omega (arith, (d x.0).short x.1, h)

  then_status : (g : List Token → Read A) → Status Any g → Status Any (λ ws. g ws >>= f)
  then_status g (refused z zs h) = refused z zs (λ ws. rw (h ws) refl)
  then_status g (whole a zs h) =
      same Any (λ ws. f (a, zs ++ ws)) (λ ws. g ws >>= f) (λ ws. rw (h ws) refl) ((d a).status zs)
  then_status g (begun short rest a h) =
      let (word, b, k) = starts (λ ts. f (a, ts)) (d a) in
      begun (λ ws. then_short (length ws) (g ws) (short ws)) (rest ++ word) b
      (λ tail t. rw (append_assoc rest word tail, h (word ++ tail) tt) (k tail))

  pub joined : Careful (λ ts. p ts >>= f)
  joined = record {
    short = λ ts. then_short (length ts) (p ts) (c.short ts);
    status = λ us. then_status (λ ws. p (us ++ ws)) (c.status us);
  }

-- what is read is put into something else
module _ {A B : Type 0} (k : Read A → Read B) (m : A → B) (err : (left : ℕ) → k (Err left) ≡ Err left) (ok : (x : A × List Token) → k (Ok x) ≡ Ok (m x.0, x.1)) where
  put_short : (n : ℕ) (r : Read A) → left_of r ≤ n → left_of (k r) ≤ n
  put_short n (Err left) h = rw (err left) h
  put_short n (Ok x) h = rw (ok x) h

  put_eaten : (n : ℕ) (r : Read A) → Eaten n r → Eaten n (k r)
  put_eaten n (Err left) h = rw (err left) h
  put_eaten n (Ok x) h = rw (ok x) h

  put_status : (End : List Token → Type 0) (g : List Token → Read A) → Status End g → Status End (λ ws. k (g ws))
  put_status End g (refused z zs h) = refused z zs (λ ws. ap k (h ws) ∙ err (length (z ∷ zs ++ ws)))
  put_status End g (whole a zs h) = whole (m a) zs (λ ws. ap k (h ws) ∙ ok (a, zs ++ ws))
  put_status End g (begun short rest a h) =
      begun (λ ws. put_short (length ws) (g ws) (short ws)) rest (m a) (λ tail t. ap k (h tail t) ∙ ok (a, tail))

  pub put_careful : (p : List Token → Read A) → Careful p → Careful (λ ts. k (p ts))
  put_careful p c = record {
    short = λ ts. put_short (length ts) (p ts) (c.short ts);
    status = λ us. put_status Any (λ ws. p (us ++ ws)) (c.status us);
  }

  pub put_element : (p : List Token → Read A) → Element p → Element (λ ts. k (p ts))
  put_element p e = record {
    eats = λ ts. put_eaten (length ts) (p ts) (e.eats ts);
    status = λ u us. put_status Any (λ ws. p (u ∷ us ++ ws)) (e.status u us);
  }

one_element : {A : Type 0} (p : List Token → Read A) → Element p → Element (λ ts. one (p ts))
one_element p = put_element one (λ a. a ∷ []) (λ left. refl) (λ x. refl) p

-- what a reader makes of a first token: no reading goes on at it, or what is read is what another reads of the tokens
-- after it
pub data First {A : Type 0} (p : List Token → Read A) (u : Token) : Type 0 where
  stuck : ((ts : List Token) → p (u ∷ ts) ≡ Err (length (u ∷ ts))) → First p u
  then_by : (q : List Token → Read A) → Careful q → ((ts : List Token) → p (u ∷ ts) ≡ q ts) → First p u

-- the first token is all that is read
pub took : {A : Type 0} {p : List Token → Read A} {u : Token} (a : A) → ((ts : List Token) → p (u ∷ ts) ≡ Ok (a, ts)) → First p u
took a h = then_by (λ ts. Ok (a, ts)) (said a) h

-- a reader by the first token
module _ {A : Type 0} (p : List Token → Read A) (nothing : p [] ≡ Err 0) (each : (u : Token) → First p u) where
  first_eats : (u : Token) (ts : List Token) → First p u → Eaten (length (u ∷ ts)) (p (u ∷ ts))
  first_eats u ts (stuck h) = rw (h ts) (omega arith)
  first_eats u ts (then_by q c h) = rw (h ts) (past (q ts) u ts (c.short ts))

  first_status : (u : Token) (us : List Token) → First p u → Status Any (λ ws. p (u ∷ us ++ ws))
  first_status u us (stuck h) = refused u us (λ ws. h (us ++ ws))
  first_status u us (then_by q c h) =
      same Any (λ ws. q (us ++ ws)) (λ ws. p (u ∷ us ++ ws)) (λ ws. h (us ++ ws)) (c.status us)

  eats : (ts : List Token) → Eaten (length ts) (p ts)
  eats [] = rw nothing (omega arith)
  eats (u ∷ ts) = first_eats u ts (each u)

  pub element : Element p
  element = record { eats = eats; status = λ u us. first_status u us (each u) }

  -- with a whole that it reads
  pub by_token : (word : List Token) (a : A) → ((tail : List Token) → p (word ++ tail) ≡ Ok (a, tail)) → Careful p
  by_token word a ends = by_first p (λ ts. eaten_short (p ts) (length ts) (eats ts)) word a ends element.status

-- a token is taken from the front, or no reading goes on at it
abbrev pub IsTaken : (List Token → Result (List Token) ℕ) → Token → Type 0
IsTaken q u = ((ts : List Token) → q (u ∷ ts) ≡ Ok ts) ⊎ ((ts : List Token) → q (u ∷ ts) ≡ Err (length (u ∷ ts)))

-- a token that is due
pub record Due (q : List Token → Result (List Token) ℕ) : Type 0 where
  pub token : Token
  pub here : (ts : List Token) → q (token ∷ ts) ≡ Ok ts
  pub nothing : q [] ≡ Err 0
  pub each : (u : Token) → IsTaken q u

module _ {A : Type 0} (q : List Token → Result (List Token) ℕ) (y : Due q) (f : List Token → Read A) (c : Careful f) where
  due_first : (u : Token) → IsTaken q u → First (λ ts. q ts >>= f) u
  due_first u (inl h) = then_by f c (λ ts. rw (h ts) refl)
  due_first u (inr h) = stuck (λ ts. rw (h ts) refl)

  pub due_element : Element (λ ts. q ts >>= f)
  due_element = element (λ ts. q ts >>= f) (rw y.nothing refl) (λ u. due_first u (y.each u))

  pub due_then : Careful (λ ts. q ts >>= f)
  due_then =
      let (word, a, k) = starts f c in
      by_token (λ ts. q ts >>= f) (rw y.nothing refl) (λ u. due_first u (y.each u)) (y.token ∷ word) a (λ tail. rw (y.here (word ++ tail)) (k tail))

-- a token ends a list, or does not
abbrev pub IsSettled : (List Token → Option (List Token)) → Token → Type 0
IsSettled stop u = ((ts : List Token) → stop (u ∷ ts) ≡ Some ts) ⊎ ((ts : List Token) → stop (u ∷ ts) ≡ None)

-- what ends a list
pub record Stop (End : List Token → Type 0) (stop : List Token → Option (List Token)) : Type 0 where
  pub word : List Token
  pub ends : (tail : List Token) → End tail → stop (word ++ tail) ≡ Some tail
  pub nothing : (rest : List Token) → stop [] ≡ Some rest → rest ≡ []
  pub each : (u : Token) → IsSettled stop u

module _ {M : Type 0} (loop : Loop M) (End : List Token → Type 0) (s : Stop End loop.stop) (e : Element loop.element) where
  stop_shorter_at : (u : Token) (ts rest : List Token) → IsSettled loop.stop u → loop.stop (u ∷ ts) ≡ Some rest → length rest ≤ length (u ∷ ts)
  stop_shorter_at u ts rest (inl h) k = let e : rest ≡ ts = cc (h ts) in rw e (omega arith)
  stop_shorter_at u ts rest (inr h) k = let none : ⊥ = cc (h ts) in absurd none

  stop_shorter : (ts rest : List Token) → loop.stop ts ≡ Some rest → length rest ≤ length ts
  stop_shorter [] rest k = rw (s.nothing rest k) (omega arith)
  stop_shorter (u ∷ ts) rest k = stop_shorter_at u ts rest (s.each u) k

  step_short : (ts : List Token) (o : Option (List Token)) (r : Read M) → loop.stop ts ≡ o → left_of r ≤ length ts → left_of (stop_or loop o r) ≤ length ts
  step_short ts (Some rest) r k h = stop_shorter ts rest k
  step_short ts None r k h = h

  more_short : (n : ℕ) (r : Read M) (next : List Token → Read M) → left_of r ≤ n → ((us : List Token) → left_of (next us) ≤ length us) → left_of (then_more loop r next) ≤ n
  more_short n (Err left) next h k = h
  more_short n (Ok x) next h k = put_short (after loop x.0) (loop.join x.0) (λ left. refl) (λ x. refl) n (next x.1) (omega (arith, h, k x.1))

  many_short : (n : ℕ) (ts : List Token) → left_of (many_at loop n ts) ≤ length ts
  many_short zero ts = omega arith
  many_short (suc n) ts =
      step_short ts (loop.stop ts) (then_more loop (loop.element ts) (many_at loop n)) refl
      (more_short (length ts) (loop.element ts) (many_at loop n) (eaten_short (loop.element ts) (length ts) (e.eats ts)) (many_short n))

  run_short : (ts : List Token) → left_of (run loop ts) ≤ length ts
  unfolding run
  run_short ts = many_short (suc (length ts)) ts

  -- more steps than tokens are enough
  enough_more : (n m : ℕ) (ts : List Token) (r : Read M) → Eaten (length ts) r → length ts < suc n → length ts < suc m → ((us : List Token) → length us < n → length us < m → many_at loop n us ≡ many_at loop m us) → then_more loop r (many_at loop n) ≡ then_more loop r (many_at loop m)
  enough_more n m ts (Err left) h k l ih = refl
  enough_more n m ts (Ok x) h k l ih = ap (after loop x.0) (ih x.1 (omega (arith, h, k)) (omega (arith, h, l)))

  enough : (n m : ℕ) (ts : List Token) → length ts < n → length ts < m → many_at loop n ts ≡ many_at loop m ts
  enough zero m ts k l = absurd (omega (arith, k))
  enough (suc n) zero ts k l = absurd (omega (arith, l))
  enough (suc n) (suc m) ts k l =
      ap (stop_or loop (loop.stop ts)) (enough_more n m ts (loop.element ts) (e.eats ts) k l (enough n m))

  each_runs : (ts : List Token) → Runs loop ts (run loop ts)
  unfolding run
  each_runs ts = record { runs = λ n less. enough n (suc (length ts)) ts less (omega arith) }

  step_of : (ts : List Token) (r : Read M) → loop.stop ts ≡ None → loop.element ts ≡ r → Eaten (length ts) r → run loop ts ≡ then_more loop r (run loop)
  step_of ts (Err left) k l h = run_is loop ts (Err left) (runs_no_element loop left ts k l)
  step_of ts (Ok x) k l h =
      run_is loop ts (after loop x.0 (run loop x.1)) (runs_element loop ts x (run loop x.1) k l h (each_runs x.1))

  run_step : (ts : List Token) (r : Read M) → loop.stop ts ≡ None → loop.element ts ≡ r → run loop ts ≡ then_more loop r (run loop)
  run_step ts r k l = step_of ts r k l (rw (← l) (e.eats ts))

  run_stops : (ts rest : List Token) → loop.stop ts ≡ Some rest → run loop ts ≡ Ok (loop.none, rest)
  run_stops ts rest k = run_is loop ts (Ok (loop.none, rest)) (runs_stop loop ts rest k)

  fewer : (u : Token) (us : List Token) (m : M) (zs : List Token) → loop.element (u ∷ us ++ []) ≡ Ok (m, zs ++ []) → length zs < length (u ∷ us)
  fewer u us m zs h =
      let less : Eaten (length (u ∷ us ++ [])) (Ok (m, zs ++ [])) = subst (Eaten (length (u ∷ us ++ []))) h (e.eats (u ∷ us ++ [])) in
      omega (arith, less, length-append zs [], length-append us [])

  element_status : (k : ℕ) (u : Token) (us : List Token) → length (u ∷ us) < suc k → ((ts : List Token) → loop.stop (u ∷ ts) ≡ None) → Status Any (λ ws. loop.element (u ∷ us ++ ws)) → ((zs : List Token) → length zs < k → Status End (λ ws. run loop (zs ++ ws))) → Status End (λ ws. run loop (u ∷ us ++ ws))
  element_status k u us less no_stop (refused z zs h) ih =
      refused z zs (λ ws. run_step (u ∷ us ++ ws) (Err (length (z ∷ zs ++ ws))) (no_stop (us ++ ws)) (h ws))
  element_status k u us less no_stop (whole m zs h) ih =
      same End (λ ws. after loop m (run loop (zs ++ ws))) (λ ws. run loop (u ∷ us ++ ws))
      (λ ws. run_step (u ∷ us ++ ws) (Ok (m, zs ++ ws)) (no_stop (us ++ ws)) (h ws))
      (put_status (after loop m) (loop.join m) (λ left. refl) (λ x. refl) End (λ ws. run loop (zs ++ ws)) (ih zs (omega (arith, less, fewer u us m zs (h [])))))
  element_status k u us less no_stop (begun short rest m h) ih =
      begun
      (λ ws. rw (run_step (u ∷ us ++ ws) (loop.element (u ∷ us ++ ws)) (no_stop (us ++ ws)) refl) (more_short (length ws) (loop.element (u ∷ us ++ ws)) (run loop) (short ws) run_short))
      (rest ++ s.word) (loop.join m loop.none)
      (λ tail t.
      rw (append_assoc rest s.word tail, run_step (u ∷ us ++ (rest ++ (s.word ++ tail))) (Ok (m, s.word ++ tail)) (no_stop (us ++ (rest ++ (s.word ++ tail)))) (h (s.word ++ tail) tt), run_stops (s.word ++ tail) tail (s.ends tail t)) refl)

  run_status_at : (k : ℕ) (u : Token) (us : List Token) → length (u ∷ us) < suc k → IsSettled loop.stop u → ((zs : List Token) → length zs < k → Status End (λ ws. run loop (zs ++ ws))) → Status End (λ ws. run loop (u ∷ us ++ ws))
  run_status_at k u us less (inl h) ih = whole loop.none us (λ ws. run_stops (u ∷ us ++ ws) (us ++ ws) (h (us ++ ws)))
  run_status_at k u us less (inr h) ih = element_status k u us less h (e.status u us) ih

  run_status_in : (k : ℕ) (us : List Token) → length us < k → Status End (λ ws. run loop (us ++ ws))
  run_status_in zero us less = absurd (omega (arith, less))
  run_status_in (suc k) [] less = begun run_short s.word loop.none (λ tail t. run_stops (s.word ++ tail) tail (s.ends tail t))
  run_status_in (suc k) (u ∷ us) less = run_status_at k u us less (s.each u) (run_status_in k)

  pub run_status : (us : List Token) → Status End (λ ws. run loop (us ++ ws))
  run_status us = run_status_in (suc (length us)) us (omega arith)

pub run_careful : {M : Type 0} (loop : Loop M) → Stop Any loop.stop → Element loop.element → Careful (run loop)
run_careful loop s e = record { short = run_short loop Any s e; status = run_status loop Any s e }

pub list_status : {A : Type 0} (End : List Token → Type 0) (stop : List Token → Option (List Token)) (p : List Token → Read A) → Stop End stop → Element p → (us : List Token) → Status End (λ ws. run (list_loop stop p) (us ++ ws))
list_status End stop p s e = run_status (list_loop stop p) End s (one_element p e)

pub list_short : {A : Type 0} (End : List Token → Type 0) (stop : List Token → Option (List Token)) (p : List Token → Read A) → Stop End stop → Element p → (ts : List Token) → left_of (run (list_loop stop p) ts) ≤ length ts
list_short End stop p s e = run_short (list_loop stop p) End s (one_element p e)

pub list_careful : {A : Type 0} (stop : List Token → Option (List Token)) (p : List Token → Read A) → Stop Any stop → Element p → Careful (run (list_loop stop p))
list_careful stop p s e = run_careful (list_loop stop p) s (one_element p e)

-- elements after a first one
pub after_first : {A : Type 0} (stop : List Token → Option (List Token)) (p : List Token → Read A) → Stop Any stop → Element p → (a : A) → Careful (λ ts. after (list_loop stop p) (a ∷ []) (run (list_loop stop p) ts))
after_first stop p s e a = put_careful (after (list_loop stop p) (a ∷ [])) (λ xs. a ∷ xs) (λ left. refl) (λ x. refl) (run (list_loop stop p)) (list_careful stop p s e)
