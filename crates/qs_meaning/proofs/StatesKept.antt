-- What each request leaves true of an object's state stays true of all objects while a block runs alone. That states
-- stay of their kinds and in their ranges stands on it. It goes by induction on the block's tree.
use Rattle.std.proofs.Common.{◌≡◌, ℕ, false, ◌==◌, sym, subst, ⊎_elim}
use Rattle.qs_meaning.proofs.Common.{after, answer, Locals, num_cases, Request, State, Statements}
use Rattle.qs_meaning.specs.audit.Interaction.{Interaction, Done, Call, Query, tree_of}
use Rattle.qs_meaning.specs.Interaction.{run}
use Rattle.qs_meaning.specs.audit.Solo as alone
use Rattle.qs_meaning.specs.audit.Solo.{States, states_after, solo, value_of}
use Rattle.qs_meaning.proofs.Trees.{trees_agree}
use Rattle.qs_meaning.proofs.TreeWalks.{put_here, put_there}

module _ (P : ℕ → State → Type 0) (stays : (h : ℕ) (s : State) (r : Request) → P h s → P h (after s r)) where
  changed : (st : States) (r : Request) → ((h : ℕ) → P h (st h)) → (h : ℕ) → P h (states_after st r h)
  changed st r are h =
      ⊎_elim
      (λ (is : r.object ≡ h).
      subst (λ h. P h (states_after st r h)) is
      (subst (P r.object) (sym (put_here st r.object (after (st r.object) r))) (stays r.object (st r.object) r (are r.object))))
      (λ (no : (r.object == h) ≡ false).
      subst (P h) (sym (put_there st r.object (after (st r.object) r) h no)) (are h))
      (num_cases r.object h)

  runs : (t : Interaction) (st : States) → ((h : ℕ) → P h (st h)) → (h : ℕ) → P h ((run t st).states h)
  runs (Done l) st are = are
  runs (Call r next) st are = runs next (states_after st r) (changed st r are)
  runs (Query r next) st are = runs (next (value_of (answer (st r.object) r))) (states_after st r) (changed st r are)

  pub solo_keeps : (b : Statements) (l : Locals) (st : States) → ((h : ℕ) → P h (st h)) → (h : ℕ) → P h ((solo b l st).states h)
  solo_keeps b l st are = subst (λ (o : alone.BlockResult). (h : ℕ) → P h (o.states h)) (sym (trees_agree b l st)) (runs (tree_of b l) st are)
