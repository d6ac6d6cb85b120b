-- What is told of a whole schedule under the plain rules from the beginning, and where it leads.
use Rattle.std.proofs.Common.{◌≡◌, ℕ, List, ◌∙◌}
use Rattle.qs_steps.proofs.Names.{Actor, Form, LeadTo, ProgramShape, RulesState, begin, plain_of, plays, rules_view, schedule, step, steps_by, steps_from}
use Rattle.qs_plain_laws.specs.PlainSchedule.{scheduled}
use Rattle.qs_steps.specs.PlainSteps.{plain_steps, plain_told}

module _ (p : ProgramShape) (picks : List Actor) (rounds : ℕ) (r : RulesState) (own : r.program ≡ p) (begins : plain_of r ≡ begin p) where
  pub rules_steps : (f : Form) → steps_from rules_view f p picks rounds r ≡ plain_steps f p picks rounds
  unfolding plain_steps
  rules_steps f = λ k. steps_by (step (own k)) f p (plain_told f (own k)) picks rounds (begins k)

  pub rules_scheduled : (new : RulesState) → LeadTo rules_view (schedule p picks rounds) r new → plain_of new ≡ scheduled p picks rounds
  unfolding scheduled
  rules_scheduled new lead = lead.state ∙ (λ k. plays (own k) (schedule p picks rounds) (begins k))
