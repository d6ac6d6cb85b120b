-- Where a schedule of the optimised machine leads from a fresh machine, and what is told of it.
use Rattle.std.proofs.Common.{◌≡◌, ℕ, List, ap, sym, subst, ◌∙◌}
use Rattle.qs_steps.proofs.Names.{Actor, AreCodes, CoreKept, CoreState, Form, IsFreshCore, IsPlayedOn, LeadTo, Mode, ProgramShape, codes_of, core_plays, core_step, core_view, schedule}
use Rattle.qs_steps.proofs.Names.{steps_by, steps_from}
use Rattle.qs_steps.specs.CoreSteps.{core_steps, core_told}

module _ (p : ProgramShape) (mode : Mode) (size : ℕ) (picks : List Actor) (rounds : ℕ) (s new : CoreState) (fresh : IsFreshCore p mode size s) (lead : LeadTo core_view (schedule p picks rounds) s new) where
  same_code : codes_of s ≡ codes_of new
  same_code = sym (ap (λ (k : CoreKept). k.code) lead.kept)

  same_size : s.size ≡ new.size
  same_size = sym (ap (λ (k : CoreKept). k.size) lead.kept)

  -- these are the actors that led to it
  pub scheduled_on : IsPlayedOn p mode size (schedule p picks rounds) new
  scheduled_on = record {
    program = ap (λ (k : CoreKept). k.program) lead.kept ∙ fresh.program;
    size = sym same_size ∙ fresh.size;
    codes = subst (AreCodes p mode) same_code fresh.codes;
    played = lead.state ∙ (λ k. core_plays (same_code k) (fresh.size k) (schedule p picks rounds) (fresh.begins k));
  }

  -- and these are the lines of its steps
  pub core_steps_on : (f : Form) → steps_from core_view f p picks rounds s ≡ core_steps f p (codes_of new) new.size picks rounds
  unfolding core_steps
  core_steps_on f = λ k. steps_by (core_step (same_code k) (same_size k)) f p (core_told f (fresh.program k) (same_code k) (same_size k)) picks rounds (fresh.begins k)
