-- The comparison of two blocks' texts that looks at names and at the variables' values at once is a comparison of the
-- names and one of the values. The contract of `are_same_texts` needs both ways, since the code goes over the texts
-- once, while the definition states the two apart. Statements that are related in two ways at each place are related in
-- both ways at once, and the other way round.
use Rattle.std.proofs.Common.{◌≡◌, ℕ, Bool, List, map, rules}
use Rattle.qs_played.proofs.Names.{Decides, Ticket, Statements, Locals, SameStatements, SameText, SameValues, object_name, value_at, variable_name, SameObjects, SameVariables}
use Rattle.qs_program.specs.audit.Numbering.{Name}
use Rattle.qs_program.specs.audit.Program.{ProgramShape, client_at, text_of}
use Rattle.qs_meaning.proofs.EqualTexts.{both}

module _ (p q : ProgramShape) (t u : Ticket) (l k : Locals) where
  abbrev V : ℕ → ℕ → Type 0
  V x y = variable_name p t x ≡ variable_name q u y

  abbrev E : ℕ → ℕ → Type 0
  E x y = value_at l x ≡ value_at k y

  abbrev pub SameBodies : Type 0
  SameBodies =
      SameStatements (SameObjects p q) (SameVariables (client_at p t.client).variables (client_at q u.client).variables l k)
      (text_of p t).body (text_of q u).body

  abbrev pub SameLists : Type 0
  SameLists = map (object_name p) (text_of p t).reserved ≡ map (object_name q) (text_of q u).reserved

  pub texts_from : SameLists → SameBodies → SameText p q t u × SameValues p q t u l k
  texts_from lists s = search (rules, both, E)

  pub bodies_from : SameText p q t u → SameValues p q t u l k → SameBodies
  bodies_from text values =
      both (SameObjects p q) (λ h g. Unit {0}) (SameObjects p q) V E (λ x y. V x y × E x y) (λ h g a b. a) (λ x y a b. (a, b))
      (text_of p t).body (text_of q u).body text.body values

  -- the same of equal parts
  pub bodies_decided : (r : Bool) (ns ms : List Name) (m n : Locals) (b c : Statements)
      → ns ≡ (client_at p t.client).variables → ms ≡ (client_at q u.client).variables → m ≡ l → n ≡ k → b ≡ (text_of p t).body → c ≡ (text_of q u).body
      → Decides r (SameStatements (SameObjects p q) (SameVariables ns ms m n) b c) → Decides r SameBodies
  bodies_decided r ns ms m n b c e1 e2 e3 e4 e5 e6 d = search rules

  pub lists_decided : (r : Bool) (xs ys : List ℕ) → xs ≡ (text_of p t).reserved → ys ≡ (text_of q u).reserved
      → Decides r (map (object_name p) xs ≡ map (object_name q) ys) → Decides r SameLists
  lists_decided r xs ys e f d = search (rules, map)
