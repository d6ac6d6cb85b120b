-- Statements run one after another end as their list does, and the objects of a list change as those of the meaning.
-- The loops of a block alone, over statements and over turns, stand on this: what was run so far and what is left make
-- up the whole. It goes by cases on the first statement.
use Rattle.std.proofs.Common.{◌≡◌, ◌<◌, ◌+◌, ℕ, suc, Bool, true, false, List, ◌∷◌, length, get_or, drop, refl, sym, ◌∙◌, subst, add-one, if◌then◌else◌, drop-cons}
use Rattle.qs_objects.specs.audit.Act.{State}
use Rattle.qs_program.specs.declared.code.Stmt.{Stmt}
use Rattle.qs_program.specs.declared.code.Stmt.TheVariants.{Assign, If, Repeat, Leave}
use Rattle.qs_program.specs.audit.Statements.{end}
use Rattle.qs_program.specs.audit.Values.{Locals, test_value}
use Rattle.qs_program.specs.Views.{statements_of, single}
use Rattle.qs_meaning.specs.audit.Solo.{States, Ending, Runs, exec, then_run, turns_run}
use Rattle.qs_serial.specs.Alone.{AreCallsWithin, EndsWith, states_in}

-- the same but for the trace
pub record SameEnding (o e : Ending) : Type 0 where
  pub left : o.left ≡ e.left
  pub locals : o.locals ≡ e.locals
  pub states : o.states ≡ e.states

pub onward : {o e f : Ending} → SameEnding o e → SameEnding e f → SameEnding o f
onward a b = record { left = a.left ∙ b.left; locals = a.locals ∙ b.locals; states = a.states ∙ b.states }

pub ended : {o e : Ending} {left : Bool} {l : Locals} {ss : List State} → SameEnding o e → EndsWith e left l ss → EndsWith o left l ss
ended a b = record { left = a.left ∙ b.left; locals = a.locals ∙ b.locals; states = a.states ∙ b.states }

-- what comes after an ending, unless a `leave` was
abbrev pub and_then : Ending → Runs → Ending
and_then o next = if o.left then o else next o.locals o.states

then_first : (o : Ending) (next : Runs) → SameEnding (then_run o next) (and_then (then_run o (exec end)) next)
then_first o next = by_left o.left refl
  where
    by_left : (b : Bool) → o.left ≡ b → SameEnding (then_run o next) (and_then (then_run o (exec end)) next)
    by_left true e = rw e (record { left = refl; locals = refl; states = refl })
    by_left false e = rw e (record { left = refl; locals = refl; states = refl })

-- a list of statements is its first and then the others
pub exec_cons : (s : Stmt) (xs : List Stmt) (l : Locals) (st : States) → SameEnding (exec (statements_of (s ∷ xs)) l st) (and_then (exec (single s) l st) (exec (statements_of xs)))
exec_cons (If t b first other) xs l st = then_first (if test_value l t then exec first l st else exec other l st) (exec (statements_of xs))
exec_cons (Repeat n body) xs l st = then_first (turns_run n (exec body) l st) (exec (statements_of xs))
exec_cons _ xs l st = record { left = refl; locals = refl; states = refl }

-- the statement at a place, and then the rest
pub exec_drop : (xs : List Stmt) (i : ℕ) (s d : Stmt) (l : Locals) (st : States) → i < length xs → s ≡ get_or xs i d
    → SameEnding (exec (statements_of (drop i xs)) l st) (and_then (exec (single s) l st) (exec (statements_of (drop (i + 1) xs))))
exec_drop xs i s d l st within is =
    let e = drop-cons xs i d within in
    subst (λ ys. SameEnding (exec (statements_of ys) l st) (and_then (exec (single s) l st) (exec (statements_of (drop (i + 1) xs))))) (sym e)
    (subst (λ k. SameEnding (exec (statements_of (get_or xs i d ∷ drop (suc i) xs)) l st) (and_then (exec (single s) l st) (exec (statements_of (drop k xs))))) (sym (add-one i))
    (subst (λ s. SameEnding (exec (statements_of (get_or xs i d ∷ drop (suc i) xs)) l st) (and_then (exec (single s) l st) (exec (statements_of (drop (suc i) xs))))) (sym is)
    (exec_cons (get_or xs i d) (drop (suc i) xs) l st)))

pub calls_first : (n : ℕ) (s : Stmt) (xs : List Stmt) → AreCallsWithin n (statements_of (s ∷ xs)) → AreCallsWithin n (single s) × AreCallsWithin n (statements_of xs)
calls_first n (Assign x e) xs h = (tt, h)
calls_first n (If t b first other) xs h = ((h.0, h.1, tt), h.2)
calls_first n Leave xs h = (tt, h)
calls_first n _ xs h = ((h.0, tt), h.1)

pub calls_drop : (n : ℕ) (xs : List Stmt) (i : ℕ) (s d : Stmt) → i < length xs → s ≡ get_or xs i d → AreCallsWithin n (statements_of (drop i xs))
    → AreCallsWithin n (single s) × AreCallsWithin n (statements_of (drop (i + 1) xs))
calls_drop n xs i s d within is h =
    let e = drop-cons xs i d within in
    let whole : AreCallsWithin n (statements_of (get_or xs i d ∷ drop (suc i) xs)) = subst (λ ys. AreCallsWithin n (statements_of ys)) e h in
    let parts = calls_first n (get_or xs i d) (drop (suc i) xs) whole in
    (subst (λ s. AreCallsWithin n (single s)) (sym is) parts.0, subst (λ k. AreCallsWithin n (statements_of (drop k xs))) (sym (add-one i)) parts.1)

-- a turn that a `leave` ended is the last
pub turns_left : (n k : ℕ) (body : Runs) (l m : Locals) (st : States) (ss : List State) → n ≡ suc k → EndsWith (body l st) true m ss → EndsWith (turns_run n body l st) false m ss
turns_left n k body l m st ss is e = rw (is, e.left) (record { left = refl; locals = e.locals; states = e.states })

-- after another turn the others are to come
pub turns_on : (n k : ℕ) (body : Runs) (l m : Locals) (st : States) (ss : List State) → n ≡ suc k → EndsWith (body l st) false m ss
    → SameEnding (turns_run n body l st) (turns_run k body m (states_in ss))
turns_on n k body l m st ss is e =
    rw (is, e.left, e.locals, e.states) (record { left = refl; locals = refl; states = refl })

pub known : {o : Ending} {left b : Bool} {l : Locals} {ss : List State} → EndsWith o left l ss → left ≡ b → EndsWith o b l ss
known e is = record { left = e.left ∙ is; locals = e.locals; states = e.states }

-- what an ending with a `leave` makes of what comes after it, and what one without it
pub then_left : (o : Ending) (next : Runs) (l : Locals) (ss : List State) → EndsWith o true l ss → EndsWith (and_then o next) true l ss
then_left o next l ss e = rw e.left (record { left = refl; locals = e.locals; states = e.states })

pub then_on : (o : Ending) (next : Runs) (l : Locals) (ss : List State) → EndsWith o false l ss → SameEnding (and_then o next) (next l (states_in ss))
then_on o next l ss e = rw (e.left, e.locals, e.states) (record { left = refl; locals = refl; states = refl })
