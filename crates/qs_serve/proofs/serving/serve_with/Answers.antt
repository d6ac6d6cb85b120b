use Rattle.std.proofs.Common.{◌≡◌, ◌⊎◌, ◌∙◌, Bool, Bor, List, ℕ, map, true, false, refl, sym, inl, inr}
use Rattle.std.specs.Prelude.{MatchBool, IsTrue}
use Rattle.std.proofs.KnownBytes.{Keeps-trans}
use Rattle.qs_serve.proofs.Dues.{four_is_due, zero_is_text}
use Rattle.qs_serve.proofs.Headlines.{answers, headline, lists}
use Rattle.qs_serve.proofs.serving.serve_with.Goals as goal

pub returns-clause-headline : goal.returns-clause-headline
returns-clause-headline g c =
    headline (map {A = Bor (List ℕ)} {B = List ℕ} (λ word. word.now) c.args.call.words.now) c.args.input.now c.due_of_words-due.new.input _ _ c.finish-status.new.watch.has_failed c.finish-status.result (
      c.due_of_words-due.result.0,
      c.due_of_words-due.result.1,
      c.as_slice-2.result.now,
      c.due_of_words-due.ensures.due,
      c.due_of_words-due.ensures.format,
      c.finish-status.ensures.front,
      c.finish-status.ensures.status,
    )

pub returns-clause-answers : goal.returns-clause-answers
returns-clause-answers g c =
    answers (map {A = Bor (List ℕ)} {B = List ℕ} (λ word. word.now) c.args.call.words.now) c.args.input.now
    c.due_of_words-due.new.input _ _ c.finish-status.new.watch.has_failed c.finish-status.result (
      c.due_of_words-due.result.0,
      c.due_of_words-due.result.1,
      c.as_slice-2.result.now,
      c.due_of_words-due.ensures.due,
      c.due_of_words-due.ensures.format,
      c.finish-status.ensures.front,
      c.finish-status.ensures.status,
    )

pub returns-clause-lists : goal.returns-clause-lists
returns-clause-lists g c =
    lists (map {A = Bor (List ℕ)} {B = List ℕ} (λ word. word.now) c.args.call.words.now) c.args.input.now
    c.due_of_words-due.new.input _ _ c.finish-status.new.watch.has_failed c.finish-status.result (
      c.due_of_words-due.result.0,
      c.due_of_words-due.result.1,
      c.as_slice-2.result.now,
      c.due_of_words-due.ensures.due,
      c.due_of_words-due.ensures.format,
      c.finish-status.ensures.front,
      c.finish-status.ensures.status,
    )

-- a status of 4 is that of a failed write, or what is due
by_watch : (P : Type 0) (failed : Bool) (status due : ℕ) → MatchBool failed (status ≡ 4) (P × (status ≡ due)) → status ≡ 4
    → (due ≡ 4) ⊎ IsTrue failed
by_watch P true status due is e = inr refl
by_watch P false status due is e = inl (sym is.1 ∙ e)

pub returns-clause-gives_up : goal.returns-clause-gives_up
returns-clause-gives_up g c = λ e. elim (by_watch _ c.finish-status.new.watch.has_failed c.finish-status.result _ c.finish-status.ensures.status e) [
  | inl four ↦ inl (four_is_due _ _ c.due_of_words-due.new.input.has_failed c.due_of_words-due.result.0 c.due_of_words-due.ensures.due four)
  | inr failed ↦ inr failed
]

-- a status of 0 is due, and not that of a failed write
due_by_zero : (P : Type 0) (failed : Bool) (status due : ℕ) → MatchBool failed (status ≡ 4) (P × (status ≡ due)) → status ≡ 0 → due ≡ 0
due_by_zero P true status due is e = absurd (cc (is, e))
due_by_zero P false status due is e = sym is.1 ∙ e

pub returns-clause-silent : goal.returns-clause-silent
returns-clause-silent g c = λ zero no_terminal no_warnings no_limits.
    let due = due_by_zero _ c.finish-status.new.watch.has_failed c.finish-status.result _ c.finish-status.ensures.status zero in
    Keeps-trans _ _ _ (c.tell_waiting.ensures.silent no_terminal)
    (Keeps-trans _ _ _ (c.due_of_words-due.ensures.silent no_terminal)
    (Keeps-trans _ _ _
    (c.tell.ensures.silent (zero_is_text c.due_of_words-due.result.0 due) (c.is_fine.ensures.fine zero))
    (c.tell_beside.ensures.unasked no_terminal no_warnings no_limits)))
