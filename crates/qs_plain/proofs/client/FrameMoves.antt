-- A quiet move on the frames of a block pushes a frame at the end or takes one off there. These lemmas say what that
-- does to the tree of what comes next, to the work and the load that are left, and to the frames' soundness. The
-- contracts of `begin`, `leave` and `advance` on frames stand on them. The moves are taken one by one: a repeat, one
-- more turn, a branch, a leave.
use Rattle.std.proofs.Common.{◌≡◌, ◌<◌, ◌≤◌, ℕ, zero, suc, ◌+◌, ◌-◌, ◌≢◌, ◌⊎◌, ⊎_elim, Bool, true, false, subst, List, [], ◌∷◌, ◌++◌, refl, ap, sym, ◌∙◌, arith, sub-one, slice_set, rules}
use Rattle.qs_played.proofs.Names.{AllByRecursion, fold-append, sum_by_push, IsSoundBody, IsSoundCall, most_variables, Declared, Locals, expr_value}
use Rattle.qs_program.specs.audit.Statements.{Statements, end, command, query, assign, again, leave, choose}
use Rattle.qs_program.specs.declared.code.Call.{Call}
use Rattle.qs_program.specs.declared.code.Expr.{Expr}
use Rattle.qs_program.specs.declared.code.Test.{Test}
use Rattle.qs_plain.proofs.Names.{AreSound, IsSoundFrame, Frame, rest, turning, Ahead, inside, ahead_of, next_of, work, frame_work, load_left, frame_load, Assigns, IsAside, Opens}

pub ahead_of-push : (fs : List Frame) (f : Frame) → ahead_of (fs ++ f ∷ []) ≡ inside (ahead_of fs) f
ahead_of-push fs f = fold-append inside _ fs (f ∷ [])

pub work-push : (fs : List Frame) (f : Frame) → work (fs ++ f ∷ []) ≡ work fs + frame_work f
work-push fs f = sum_by_push frame_work fs f

pub load_left-push : (fs : List Frame) (f : Frame) (h : ℕ) → load_left (fs ++ f ∷ []) h ≡ load_left fs h + frame_load h f
load_left-push fs f h = sum_by_push (frame_load h) fs f

pub ruleset pushed = (ahead_of-push, work-push, load_left-push)

-- a frame that was taken off
pub popped_ahead : (fs gs : List Frame) (f g : Frame) → fs ≡ gs ++ f ∷ [] → f ≡ g → ahead_of fs ≡ inside (ahead_of gs) g
popped_ahead fs gs f g e same = rw (e, same) (ahead_of-push gs g)

pub popped_work : (fs gs : List Frame) (f : Frame) → fs ≡ gs ++ f ∷ [] → work gs ≤ work fs
popped_work fs gs f e = rw (e, work-push) (omega arith)

pub popped_load : (fs gs : List Frame) (f : Frame) (h : ℕ) → fs ≡ gs ++ f ∷ [] → load_left gs h ≤ load_left fs h
popped_load fs gs f h e = rw (e, load_left-push gs f h) (omega arith)

-- a repeat begins
pub repeats : (fs gs : List Frame) (n : ℕ) (body s : Statements) (l : Locals) → IsAside fs gs s → next_of (fs ++ rest (again n body s) ∷ []) l ≡ next_of (gs ++ turning n body ∷ []) l
repeats fs gs n body s l aside =
    ap (λ (a : Ahead). a.next l) (ahead_of-push fs (rest (again n body s)))
    ∙ sym (ap (λ (a : Ahead). a.next l) (ahead_of-push gs (turning n body) ∙ ap (λ a. inside a (turning n body)) aside.ahead))

-- one more turn begins
turns_once : (fs : List Frame) (n : ℕ) (body : Statements) (l : Locals) → next_of (fs ++ turning (suc n) body ∷ []) l ≡ next_of ((fs ++ turning n body ∷ []) ++ rest body ∷ []) l
turns_once fs n body l = search (rules, ahead_of-push)

pub turns_again : (fs : List Frame) (n : ℕ) (body : Statements) (l : Locals) → n ≢ 0 → next_of (fs ++ turning n body ∷ []) l ≡ next_of ((fs ++ turning (n - 1) body ∷ []) ++ rest body ∷ []) l
turns_again fs v body l some = search (rules, sub-one, turns_once)

-- each of a list and one more
pub AllByRecursion-push : {X : Type 0} (P : X → Type 0) (xs : List X) (x : X) → AllByRecursion P xs → P x → AllByRecursion P (xs ++ x ∷ [])
AllByRecursion-push P [] x each one = (one, tt)
AllByRecursion-push P (y ∷ ys) x each one = (each.0, AllByRecursion-push P ys x each.1 one)

pub AllByRecursion-popped : {X : Type 0} (P : X → Type 0) (xs : List X) (x : X) → AllByRecursion P (xs ++ x ∷ []) → AllByRecursion P xs × P x
AllByRecursion-popped P [] x each = (tt, each.0)
AllByRecursion-popped P (y ∷ ys) x each = let (before, last) = AllByRecursion-popped P ys x each.1 in ((each.0, before), last)

-- soundness, move by move
module _ (objects : List Declared) (reserved : List ℕ) where
  pub popped_sound : (fs gs : List Frame) (f g : Frame) → fs ≡ gs ++ f ∷ [] → f ≡ g → AreSound objects reserved fs → AreSound objects reserved gs × IsSoundFrame objects reserved g
  popped_sound fs gs f g e same sound = search (rules, AllByRecursion-popped)

  pub repeats_sound : (fs gs : List Frame) (n : ℕ) (body s : Statements) → IsAside fs gs s → AreSound objects reserved (fs ++ rest (again n body s) ∷ []) → AreSound objects reserved (gs ++ turning n body ∷ [])
  repeats_sound fs gs n body s aside sound =
      let (before, last) = AllByRecursion-popped (IsSoundFrame objects reserved) fs (rest (again n body s)) sound in
      AllByRecursion-push (IsSoundFrame objects reserved) gs (turning n body) (aside.sound objects reserved (AllByRecursion-push (IsSoundFrame objects reserved) fs (rest s) before last.2)) last.1

  pub leaves_sound : (fs gs : List Frame) (s : Statements) → IsAside fs gs s → AreSound objects reserved (fs ++ rest (leave s) ∷ []) → AreSound objects reserved gs
  leaves_sound fs gs s aside sound =
      let (before, last) = AllByRecursion-popped (IsSoundFrame objects reserved) fs (rest (leave s)) sound in
      aside.sound objects reserved (AllByRecursion-push (IsSoundFrame objects reserved) fs (rest s) before last)

  pub commands_sound : (fs gs : List Frame) (c : Call) (s : Statements) → IsAside fs gs s → AreSound objects reserved (fs ++ rest (command c s) ∷ []) → AreSound objects reserved gs × IsSoundCall objects reserved false c
  commands_sound fs gs c s aside sound =
      let (before, last) = AllByRecursion-popped (IsSoundFrame objects reserved) fs (rest (command c s)) sound in
      (aside.sound objects reserved (AllByRecursion-push (IsSoundFrame objects reserved) fs (rest s) before last.1), last.0)

  pub queries_sound : (fs gs : List Frame) (x : ℕ) (c : Call) (s : Statements) → IsAside fs gs s
      → AreSound objects reserved (fs ++ rest (query x c s) ∷ []) → AreSound objects reserved gs × ((x < most_variables) × IsSoundCall objects reserved true c)
  queries_sound fs gs x c s aside sound =
      let (before, last) = AllByRecursion-popped (IsSoundFrame objects reserved) fs (rest (query x c s)) sound in
      (aside.sound objects reserved (AllByRecursion-push (IsSoundFrame objects reserved) fs (rest s) before last.2), (last.0, last.1))

  pub assigns_all_sound : (fs gs : List Frame) (x : ℕ) (e : Expr) (s t : Statements) (l m : Locals) → IsAside fs gs t → Assigns s l t m → AreSound objects reserved (fs ++ rest (assign x e s) ∷ []) → AreSound objects reserved gs
  assigns_all_sound fs gs x e s t l m aside assigns sound =
      let (before, last) = AllByRecursion-popped (IsSoundFrame objects reserved) fs (rest (assign x e s)) sound in
      aside.sound objects reserved (AllByRecursion-push (IsSoundFrame objects reserved) fs (rest t) before (assigns.sound objects reserved last.2))

  pub chooses_sound : (fs gs : List Frame) (t : Test) (b : Bool) (first other chosen s : Statements) → (chosen ≡ first) ⊎ (chosen ≡ other) → IsAside fs gs s
      → AreSound objects reserved (fs ++ rest (choose t b first other s) ∷ []) → AreSound objects reserved (gs ++ rest chosen ∷ [])
  chooses_sound fs gs t b first other chosen s which aside sound =
      let (before, last) = AllByRecursion-popped (IsSoundFrame objects reserved) fs (rest (choose t b first other s)) sound in
      let chosen_sound : IsSoundBody objects reserved chosen = ⊎_elim (λ (w : chosen ≡ first). subst (IsSoundBody objects reserved) (sym w) last.1) (λ (w : chosen ≡ other). subst (IsSoundBody objects reserved) (sym w) last.2) which in
      AllByRecursion-push (IsSoundFrame objects reserved) gs (rest chosen) (aside.sound objects reserved (AllByRecursion-push (IsSoundFrame objects reserved) fs (rest s) before last.3)) chosen_sound

  pub turns_sound : (fs : List Frame) (n m : ℕ) (body : Statements) → AreSound objects reserved fs → IsSoundFrame objects reserved (turning n body) → AreSound objects reserved ((fs ++ turning m body ∷ []) ++ rest body ∷ [])
  turns_sound fs n m body before last = search (rules, AllByRecursion-push)

pub nothing_aside : (fs gs : List Frame) → gs ≡ fs → IsAside fs gs end
nothing_aside fs gs e = grind (arith, AllByRecursion-popped)

pub opened_none : (fs gs : List Frame) (body : Statements) → fs ≡ gs ++ turning 0 body ∷ [] → Opens fs gs end
opened_none fs gs body e = record {
  next = λ l. rw e (ap (λ (a : Ahead). a.next l) (ahead_of-push gs (turning 0 body)) ∙ sym (ap (λ (a : Ahead). a.next l) (ahead_of-push gs (rest end))));
  work = rw (e, work-push gs (turning 0 body), work-push gs (rest end)) (omega arith);
  load = λ h. rw (e, load_left-push gs (turning 0 body) h, load_left-push gs (rest end) h) (omega arith);
  sound = λ objects reserved sound. AllByRecursion-push (IsSoundFrame objects reserved) gs (rest end) (popped_sound objects reserved fs gs (turning 0 body) (turning 0 body) e refl sound).0 tt;
}

pub opened_turn : (fs gs hs : List Frame) (n : ℕ) (body : Statements) → n ≢ 0 → fs ≡ gs ++ turning n body ∷ [] → hs ≡ gs ++ turning (n - 1) body ∷ [] → Opens fs hs body
opened_turn fs gs hs zero body some e f = absurd (some refl)
opened_turn fs gs hs (suc n) body some e f = record {
  next = λ l. rw (e, f) (turns_again gs (suc n) body l some);
  work = rw (e, f, sub-one, work-push (gs ++ turning n body ∷ []) (rest body), work-push gs (turning n body), work-push gs (turning (suc n) body)) (omega arith);
  load = λ h. rw (e, f, sub-one, load_left-push (gs ++ turning n body ∷ []) (rest body) h, load_left-push gs (turning n body) h, load_left-push gs (turning (suc n) body) h) (omega arith);
  sound = λ objects reserved sound.
      let (before, last) = popped_sound objects reserved fs gs (turning (suc n) body) (turning (suc n) body) e refl sound in
      rw (f, sub-one) (turns_sound objects reserved gs (suc n) n body before last);
}

pub assigned_one : (s t u : Statements) (l m k : Locals) (x : ℕ) (e : Expr) → Assigns s l t m → t ≡ assign x e u → k ≡ slice_set m x (expr_value m e) → Assigns s l u k
assigned_one s t u l m k x e before is sets = grind arith
