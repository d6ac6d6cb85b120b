-- A loop that reads one element after another, up to a token that stops it, reads what the definition of the list says.
-- The functions that read arguments, names, blocks, statements and items stand on it. Their invariant is `Continues`:
-- what is done, joined with what the rest is read as, is what the whole is read as.
use Rattle.std.proofs.Common.{◌≡◌, ℕ, ◌<◌, List, [], ◌∷◌, ◌++◌, length, refl, ap, sym, ◌∙◌, arith, append_assoc, append-nil, Option, Some, None, Ok, Err}
use Rattle.qs_script.specs.declared.tokens.token.Token.{Token}
use Rattle.qs_script.specs.declared.fault.TreeFault.{TreeFault}
use Rattle.qs_script.specs.declared.fault.TreeFault.TheVariants.{Form, Memory}
use Rattle.qs_script.specs.grammar.Reading.{Loop, onto, stmt_in, close_brace_at, Read, after, run, body_loop, list_loop, one, end_at}
use Rattle.qs_script.specs.Results.{Fails}
use Rattle.qs_script.specs.audit.tree.Tree.{Stmts}
use Rattle.qs_script.specs.tree.Tree.{join_statements}
use Rattle.qs_script.proofs.grammar.Loops.{Runs, run_is, runs_stop, runs_no_element, runs_element}
use Rattle.qs_script.proofs.tree.Trees.{joined_assoc, joined-end}

-- the code has read done from start and tokens, and the tokens from rest on are left
pub record Continues {M : Type 0} (loop : Loop M) (start : M) (tokens rest : List Token) (done : M) : Type 0 where
  pub continues : (read : Read M) → Runs loop rest read → after loop start (run loop tokens) ≡ after loop done read

pub begins : {M : Type 0} (loop : Loop M) (start : M) (tokens : List Token) → Continues loop start tokens tokens start
begins loop start tokens = record { continues = λ read r. ap (after loop start) (run_is loop tokens read r) }

-- one list after another
pub record IsLawful {M : Type 0} (loop : Loop M) : Type 0 where
  pub none_before : (x : M) → loop.join loop.none x ≡ x
  pub none_after : (x : M) → loop.join x loop.none ≡ x
  pub regroups : (x y z : M) → loop.join (loop.join x y) z ≡ loop.join x (loop.join y z)

pub body_lawful : (levels : ℕ) → IsLawful (body_loop levels)
body_lawful levels = record { none_before = λ x. refl; none_after = joined-end; regroups = joined_assoc }

pub list_lawful : {A : Type 0} (stop : List Token → Option (List Token)) (element : List Token → Read A) → IsLawful (list_loop stop element)
list_lawful stop element = record { none_before = λ x. refl; none_after = append-nil; regroups = append_assoc }

module _ {M : Type 0} (loop : Loop M) (lawful : IsLawful loop) where
  after-none : (read : Read M) → after loop loop.none read ≡ read
  after-none (Err left) = refl
  after-none (Ok p) = ap (λ x. Ok (x, p.1)) (lawful.none_before p.0)

  after-after : (x y : M) (read : Read M) → after loop x (after loop y read) ≡ after loop (loop.join x y) read
  after-after x y (Err left) = refl
  after-after x y (Ok p) = ap (λ z. Ok (z, p.1)) (sym (lawful.regroups x y p.0))

  pub goes_on : (start : M) (tokens rest : List Token) (done : M) (x : M × List Token) → Continues loop start tokens rest done → loop.stop rest ≡ None → loop.element rest ≡ Ok x → length x.1 < length rest → Continues loop start tokens x.1 (loop.join done x.0)
  goes_on start tokens rest done x h e s less = record {
    continues = λ read r. h.continues (after loop x.0 read) (runs_element loop rest x read e s less r) ∙ after-after done x.0 read;
  }

  pub closes : (start : M) (tokens rest left : List Token) (done : M) → Continues loop start tokens rest done → loop.stop rest ≡ Some left → after loop start (run loop tokens) ≡ Ok (done, left)
  closes start tokens rest left done h e =
      h.continues (Ok (loop.none, left)) (runs_stop loop rest left e) ∙ ap (λ x. Ok (x, left)) (lawful.none_after done)

  pub fails : (fault : TreeFault) (start : M) (tokens rest : List Token) (done : M) → Continues loop start tokens rest done → loop.stop rest ≡ None → Fails fault (loop.element rest) → Fails fault (after loop start (run loop tokens))
  fails (Form left) start tokens rest done h e s = h.continues (Err left) (runs_no_element loop left rest e s)
  fails Memory start tokens rest done h e s = tt

  -- from no element on
  pub whole_closes : (tokens rest left : List Token) (done : M) → Continues loop loop.none tokens rest done → loop.stop rest ≡ Some left → run loop tokens ≡ Ok (done, left)
  whole_closes tokens rest left done h e = sym (after-none (run loop tokens)) ∙ closes loop.none tokens rest left done h e

  pub whole_fails : (fault : TreeFault) (tokens rest : List Token) (done : M) → Continues loop loop.none tokens rest done → loop.stop rest ≡ None → Fails fault (loop.element rest) → Fails fault (run loop tokens)
  whole_fails (Form left) tokens rest done h e s =
      sym (after-none (run loop tokens)) ∙ fails (Form left) loop.none tokens rest done h e s
  whole_fails Memory tokens rest done h e s = tt

-- lists of what is read one by one
module _ {A : Type 0} (stop : List Token → Option (List Token)) (element : List Token → Read A) where
  pub list_goes_on : (start : List A) (tokens rest : List Token) (done : List A) (x : A × List Token) → Continues (list_loop stop element) start tokens rest done → stop rest ≡ None → element rest ≡ Ok x → length x.1 < length rest → Continues (list_loop stop element) start tokens x.1 (done ++ x.0 ∷ [])
  list_goes_on start tokens rest done x h e s less =
      goes_on (list_loop stop element) (list_lawful stop element) start tokens rest done (x.0 ∷ [], x.1) h e (ap one s) less

  pub one_fails : (fault : TreeFault) (read : Read A) → Fails fault read → Fails fault (one read)
  one_fails (Form left) read h = ap one h
  one_fails Memory read h = tt

  pub list_fails : (fault : TreeFault) (start : List A) (tokens rest : List Token) (done : List A) → Continues (list_loop stop element) start tokens rest done → stop rest ≡ None → Fails fault (element rest) → Fails fault (after (list_loop stop element) start (run (list_loop stop element) tokens))
  list_fails fault start tokens rest done h e s =
      fails (list_loop stop element) (list_lawful stop element) fault start tokens rest done h e (one_fails fault (element rest) s)

pub at_end : (ts : List Token) → length ts ≡ 0 → end_at ts ≡ Some []
at_end [] h = refl
at_end (x ∷ ts) h = absurd (omega arith)

-- a statement that was added to those of before
put_read : (levels : ℕ) (start : Stmts) (tokens rest left : List Token) (done new : Stmts) (read : Read Stmts) → stmt_in levels rest ≡ read → Continues (body_loop levels) start tokens rest done → close_brace_at rest ≡ None
    → onto done read ≡ Ok (new, left) → length left < length rest → Continues (body_loop levels) start tokens left new
put_read levels start tokens rest left done new (Err stuck) e h stop is less = cc
put_read levels start tokens rest left done new (Ok x) e h stop is less =
    let pair : ◌≡◌ {A = Stmts × List Token} (join_statements done x.0, x.1) (new, left) = cc in
    let news : join_statements done x.0 ≡ new = ap (λ p. p.0) pair in
    let lefts : x.1 ≡ left = ap (λ p. p.1) pair in
    rw (← news, ← lefts) (goes_on (body_loop levels) (body_lawful levels) start tokens rest done x h stop e (rw lefts less))

pub puts_on : (levels : ℕ) (start : Stmts) (tokens rest left : List Token) (done new : Stmts) → Continues (body_loop levels) start tokens rest done → close_brace_at rest ≡ None
    → onto done (stmt_in levels rest) ≡ Ok (new, left) → length left < length rest → Continues (body_loop levels) start tokens left new
puts_on levels start tokens rest left done new h stop is less =
    put_read levels start tokens rest left done new (stmt_in levels rest) refl h stop is less
