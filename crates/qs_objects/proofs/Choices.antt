-- Two numbers are the same or not, two tickets are the same or not, and the tests for equality tell which. Almost every
-- proof about tickets, objects and clients splits its cases with these lemmas. For numbers they are arithmetic, and for
-- tickets they follow from the two numbers of a ticket.
use Rattle.std.proofs.Common.{◌≡◌, ◌≢◌, ℕ, Bool, true, false, true≢false, ◌==◌, ◌&&◌, ◌⊎◌, inl, inr, ⊎_elim, refl, sym, ◌∙◌, subst, arith}
use Rattle.std.proofs.lemmas.Bool.{cases_Bool}
use Rattle.std.proofs.lemmas.Bool.Decides.{nat_tests}
use Rattle.qs_objects.specs.audit.Parts.{same}
use Rattle.qs_objects.specs.declared.held.Ticket.{Ticket}

pub eqb_self : (n : ℕ) → (n == n) ≡ true
eqb_self n = grind (arith, nat_tests)

pub eqb_apart : (m n : ℕ) → m ≢ n → (m == n) ≡ false
eqb_apart m n h = grind (arith, nat_tests)

pub eqb_true : (m n : ℕ) → (m == n) ≡ true → m ≡ n
eqb_true m n e = grind (arith, nat_tests)

pub apart_eqb : (m n : ℕ) → (m == n) ≡ false → m ≢ n
apart_eqb m n f e = grind (arith, nat_tests)

-- two numbers are one or not
pub num_cases : (m n : ℕ) → (m ≡ n) ⊎ ((m == n) ≡ false)
num_cases m n = elim (cases_Bool (m == n)) [ inl t ↦ inl (grind (arith, nat_tests)) | inr f ↦ inr f ]

pub and_cases : (a b : Bool) → (a && b) ≡ true → (a ≡ true) × (b ≡ true)
and_cases true b h = (refl, h)
and_cases false b h = absurd (cc)

pub same_self : (t : Ticket) → same t t ≡ true
same_self t = rw (eqb_self t.client) (eqb_self t.index)

pub ticket_path : {t u : Ticket} → t.client ≡ u.client → t.index ≡ u.index → t ≡ u
ticket_path a b = λ i. record { client = a i; index = b i }

-- two tickets are one or not
pub ticket_cases : (t u : Ticket) → (t ≡ u) ⊎ (same t u ≡ false)
ticket_cases t u = elim (cases_Bool (same t u)) [ inl e ↦ inl (one (and_cases (t.client == u.client) (t.index == u.index) e)) | inr f ↦ inr f ]
  where
    one : ((t.client == u.client) ≡ true) × ((t.index == u.index) ≡ true) → t ≡ u
    one p = ticket_path (eqb_true t.client u.client p.0) (eqb_true t.index u.index p.1)

pub not_same : (t u : Ticket) → t ≢ u → same t u ≡ false
not_same t u n = ⊎_elim (λ (is : t ≡ u). absurd (n is)) (λ (other : same t u ≡ false). other) (ticket_cases t u)

pub same_apart : (t u : Ticket) → same t u ≡ false → t ≢ u
same_apart t u other is = true≢false (sym (subst (λ v. same t v ≡ true) is (same_self t)) ∙ other)
