-- A variable that its client's text does not name stays 0, since a block sets no other variables than those that its
-- text names. A row of the search for all outcomes leaves such variables out. It goes by induction on the statements,
-- on turns and on the order.
use Rattle.std.proofs.Common.{◌≡◌, ◌<◌, ℕ, zero, suc, Bool, true, false, if◌then◌else◌, ◌==◌, List, [], ◌∷◌, ◌++◌, length, take, drop, refl, sym, ap, ◌∙◌, slice_set, inl, inr, ⊎_elim, ℤ}
use Rattle.qs_meaning.proofs.Common.{again, answer, AreVariablesBelow, assign, block_at, cases_Bool, choose, client_at, command, drop-set-lt, end, expr_value, IsSound, leave, length-replicate, length-set, Locals, most_variables, num_cases, ProgramShape, query, request_of, Statements, take-append-drop, test_value, Ticket}
use Rattle.std.proofs.Common.{pos}
use Rattle.qs_meaning.specs.audit.Configurations.{Configuration, configuration_from, first_configuration, one_block_on}
use Rattle.qs_meaning.specs.Configurations.{UnnamedStayZero}
use Rattle.qs_meaning.specs.audit.Solo.{Ending, Runs, States, exec, solo, states_after, then_run, turns_run, value_of}
use Rattle.qs_meaning.proofs.AlikeTraces.{variables_below}
use Rattle.qs_meaning.proofs.TreeWalks.{put_here, put_there}

-- what no setting of a named variable changes, no block changes
module _ {X : Type 0} (F : Locals → X) (n : ℕ) (kept : (l : Locals) (x : ℕ) (v : ℤ) → x < n → F (slice_set l x v) ≡ F l) where
  abbrev Keeps : Runs → Type 0
  Keeps runs = (l : Locals) (st : States) → F (runs l st).locals ≡ F l

  then_keeps : (o : Ending) (next : Runs) → Keeps next → F (then_run o next).locals ≡ F o.locals
  then_keeps o next keeps = elim (cases_Bool o.left) [ inl e ↦ rw e refl | inr e ↦ rw e (keeps o.locals o.states) ]

  turns_keep : (k : ℕ) (body : Runs) → Keeps body → Keeps (turns_run k body)
  turns_keep zero body keeps l st = refl
  turns_keep (suc k) body keeps l st = elim (cases_Bool (body l st).left) [
    | inl e ↦ rw e (keeps l st)
    | inr e ↦ rw e (turns_keep k body keeps (body l st).locals (body l st).states ∙ keeps l st)
  ]

  exec_keeps : (body : Statements) → AreVariablesBelow n body → Keeps (exec body)
  exec_keeps end below l st = refl
  exec_keeps (command c rest) below l st = exec_keeps rest below.1 l (states_after st (request_of l c))
  exec_keeps (query x c rest) below l st =
      exec_keeps rest below.2 (slice_set l x (value_of (answer (st c.object) (request_of l c)))) (states_after st (request_of l c))
      ∙ kept l x (value_of (answer (st c.object) (request_of l c))) below.0
  exec_keeps (assign x e rest) below l st = exec_keeps rest below.2 (slice_set l x (expr_value l e)) st ∙ kept l x (expr_value l e) below.0
  exec_keeps (choose t has_else first other rest) below l st =
      then_keeps (if test_value l t then exec first l st else exec other l st) (exec rest) (exec_keeps rest below.4)
      ∙ by_case (test_value l t) (exec_keeps first below.2 l st) (exec_keeps other below.3 l st)
    where
      by_case : (b : Bool) → F (exec first l st).locals ≡ F l → F (exec other l st).locals ≡ F l
          → F (if b then exec first l st else exec other l st).locals ≡ F l
      by_case true a b = a
      by_case false a b = b
  exec_keeps (again k body rest) below l st =
      then_keeps (turns_run k (exec body) l st) (exec rest) (exec_keeps rest below.1) ∙ turns_keep k (exec body) (exec_keeps body below.0) l st
  exec_keeps (leave rest) below l st = refl

module _ {X : Type 0} (F : Locals → X) (p : ProgramShape) (sound : IsSound p) (c : ℕ)
    (kept : (l : Locals) (x : ℕ) (v : ℤ) → x < length (client_at p c).variables → F (slice_set l x v) ≡ F l) where
  one_block_keeps : (g : Configuration) (d : ℕ) → F ((one_block_on p d g).locals c) ≡ F (g.locals c)
  one_block_keeps g d =
      ⊎_elim
      (λ (is : d ≡ c). at (sym is))
      (λ (other : (d == c) ≡ false). ap F (put_there g.locals d (solo (block_at p d (g.begun d)).body (g.locals d) g.states).locals c other))
      (num_cases d c)
    where
      at : c ≡ d → F ((one_block_on p d g).locals c) ≡ F (g.locals c)
      at is =
          ap (λ k. F ((one_block_on p k g).locals c)) (sym is)
          ∙ (ap F (put_here g.locals c (solo (block_at p c (g.begun c)).body (g.locals c) g.states).locals)
          ∙ exec_keeps F (length (client_at p c).variables) kept (block_at p c (g.begun c)).body (variables_below p sound (record { client = c; index = g.begun c })) (g.locals c) g.states)

  order_keeps : (g : Configuration) (order : List Ticket) → F ((configuration_from p g order).locals c) ≡ F (g.locals c)
  order_keeps g [] = refl
  order_keeps g (t ∷ ts) = order_keeps (one_block_on p t.client g) ts ∙ one_block_keeps g t.client

pub unnamed_stay_zero : UnnamedStayZero
unnamed_stay_zero p sound order c = record {
  long = order_keeps (λ l. length l) p sound c (λ l x v less. length-set l x v) (first_configuration p) order ∙ length-replicate most_variables (pos 0);
  named = sym (take-append-drop (length (client_at p c).variables) ((configuration_from p (first_configuration p) order).locals c))
      ∙ ap (λ xs. take (length (client_at p c).variables) ((configuration_from p (first_configuration p) order).locals c) ++ xs)
      (order_keeps (λ l. drop (length (client_at p c).variables) l) p sound c (λ l x v. drop-set-lt (length (client_at p c).variables) l x v) (first_configuration p) order);
}
