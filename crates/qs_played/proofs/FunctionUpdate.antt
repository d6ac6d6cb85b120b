-- A function of numbers or of tickets that was changed at one place has the new value there and its old value
-- everywhere else. The invariants of both machines speak of such functions, and each step changes them at one place, so
-- nearly every lemma on a step uses this. The proofs ask whether a place is the one that was changed.
use Rattle.std.proofs.Common.{◌≡◌, ℕ, false, if◌then◌else◌, ◌==◌, rules}
use Rattle.qs_played.proofs.Names.{same, Ticket, num_cases, ticket_cases, same_self, put, put_here, put_there}

-- f with another value at t
abbrev pub put_at : {A : Type 0} → (Ticket → A) → Ticket → A → Ticket → A
put_at f t a u = if same t u then a else f u

pub put_at_here : {A : Type 0} (f : Ticket → A) (t : Ticket) (a : A) → put_at f t a t ≡ a
put_at_here f t a = rw (same_self t)

pub put_at_there : {A : Type 0} (f : Ticket → A) (t : Ticket) (a : A) (u : Ticket) → same t u ≡ false → put_at f t a u ≡ f u
put_at_there f t a u e = rw e

pub put_at_holds : {A : Type 0} (P : A → Type 0) (f : Ticket → A) (t : Ticket) (a : A) → P a → ((u : Ticket) → P (f u)) → (u : Ticket) → P (put_at f t a u)
put_at_holds P f t a h k u = search rules

pub put_at_field : {A B : Type 0} (f : A → B) (g : Ticket → A) (k : Ticket → B) (t : Ticket) (a : A) (b : B) → ((u : Ticket) → f (g u) ≡ k u) → f a ≡ b → (u : Ticket) → f (put_at g t a u) ≡ put_at k t b u
put_at_field f g k t a b h e u = search rules

pub put_field : {A B : Type 0} (f : A → B) (g : ℕ → A) (k : ℕ → B) (n : ℕ) (a : A) (b : B) → ((m : ℕ) → f (g m) ≡ k m) → f a ≡ b → (m : ℕ) → f (put g n a m) ≡ put k n b m
put_field f g k n a b h e m = search rules

-- a field that the change keeps
pub put_at_kept : {A B : Type 0} (f : A → B) (g : Ticket → A) (t : Ticket) (a : A) → f a ≡ f (g t) → (u : Ticket) → f (put_at g t a u) ≡ f (g u)
put_at_kept f g t a e u = search (rules, put_at, put_at_here, put_at_there, ticket_cases)

pub put_kept : {A B : Type 0} (f : A → B) (g : ℕ → A) (n : ℕ) (a : A) → f a ≡ f (g n) → (m : ℕ) → f (put g n a m) ≡ f (g m)
put_kept f g n a e m = search (rules, put_here, put_there, num_cases)

-- a change at n, seen at every place
pub put_all : {A : Type 0} (P : ℕ → A → Type 0) (g : ℕ → A) (n : ℕ) (a : A) → P n a → ((m : ℕ) → (n == m) ≡ false → P m (g m)) → (m : ℕ) → P m (put g n a m)
put_all P g n a h k m = search (rules, put_here, put_there, num_cases)

-- two functions changed at one place
pub put_both : {A B : Type 0} (P : ℕ → A → B → Type 0) (f : ℕ → A) (g : ℕ → B) (n : ℕ) (a : A) (b : B) → P n a b → ((m : ℕ) → (n == m) ≡ false → P m (f m) (g m)) → (m : ℕ) → P m (put f n a m) (put g n b m)
put_both P f g n a b h k m = search (rules, put_here, put_there, num_cases)
