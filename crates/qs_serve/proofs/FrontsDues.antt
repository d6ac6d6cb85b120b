-- What is due of the configurations after so many blocks, for one list of clients and for several. The functions of
-- `fronts` stand on it.
use Rattle.std.proofs.Common.{◌≡◌, ◌==◌, ◌⊎◌, ◌∙◌, ◌∷◌, ◌++◌, ℕ, List, [], false, length, append_assoc, ap, refl, sym, subst, inl, inr}
use Rattle.std.proofs.lemmas.List.{append-nil}
use Rattle.std.specs.Prelude.{IsErr, IsOkAnd}
use Rattle.qs_program.specs.audit.Program.{ProgramShape}
use Rattle.qs_serial.specs.audit.NamedOrders.{order_of}
use Rattle.qs_standings.specs.Lists.{HasOne}
use Rattle.qs_standings.specs.Standings.{StandingShape}
use Rattle.qs_levels.specs.meaning.Fronts.{AreFrontsAfter}
use Rattle.qs_report.specs.declared.faults.Fault.{Fault}
use Rattle.qs_report.specs.declared.faults.Fault.TheVariants as fault
use Rattle.qs_line.specs.audit.Line.{fronts}
use Rattle.qs_line.specs.audit.Named.{clients_of}
use Rattle.qs_line.specs.declared.line.Format.{Format}
use Rattle.qs_line.specs.declared.parts.Part.{Part}
use Rattle.qs_serve.specs.Due.{AreFrontsTexts, AreNoFronts, IsDueOfProgram, IsFaultOfOrder, IsFrontsText, IsOutOfMemory, fronts_in}
use Rattle.qs_serve.specs.declared.due.Due.TheVariants.{Refused}

-- a list whose length is not 0
pub some_of : (found shown : List StandingShape) → shown ≡ found → false ≡ (length shown == 0) → (found ≡ [] → ⊥)
some_of found shown e more none = absurd (cc (subst (λ n. false ≡ (n == 0)) (ap length (e ∙ none)) more))

pub fronts_text : (how : Format) (p : ProgramShape) (blocks : ℕ) (clients : List ℕ) (found : List StandingShape) (text : List ℕ) → AreFrontsAfter p (order_of clients) blocks found
    → (found ≡ [] → ⊥) → text ≡ fronts_in how p found → IsFrontsText how p blocks clients text
unfolding IsFrontsText
fronts_text how p blocks clients found text are some is = (found, are, some, is)

-- a text more stands behind those of the lists before
pub texts_more : (how : Format) (p : ProgramShape) (blocks : ℕ) (orders : List (List Part)) (order : List Part) (text own : List ℕ) → AreFrontsTexts how p blocks orders text
    → IsOkAnd (clients_of p order) (λ clients. IsFrontsText how p blocks clients own) → AreFrontsTexts how p blocks (orders ++ order ∷ []) (text ++ own)
texts_more how p blocks [] order text own none is = (own, [], is, refl, ap (λ t. t ++ own) none ∙ sym (append-nil own))
texts_more how p blocks (o ∷ orders) order text own (first, rest, named, others, e) is =
    (first, rest ++ own, named, texts_more how p blocks orders order rest own others is, ap (λ t. t ++ own) e ∙ append_assoc first rest own)

-- what is due where one of some lists is at fault
pub due_by_fault : (how : Format) (p : ProgramShape) (blocks limit : ℕ) (orders : List (List Part)) (order : List Part) (f : Fault)
    → ((P : List Part → Type 0) → P order → HasOne P orders) → IsFaultOfOrder p blocks limit order f
    → IsOutOfMemory (Refused f) ⊎ IsDueOfProgram (fronts how blocks limit orders) [] p (Refused f)
due_by_fault how p blocks limit orders order fault.Memory one is = inl tt
due_by_fault how p blocks limit orders order (fault.Outcomes f) one is = inr (one (λ o. IsOkAnd (clients_of p o) (λ clients. AreNoFronts p blocks limit clients f)) is)
due_by_fault how p blocks limit orders order fault.CommandLine one is = inr (one (λ o. IsErr (clients_of p o)) is)
due_by_fault how p blocks limit orders order fault.Input one is = absurd is
due_by_fault how p blocks limit orders order (fault.Read f) one is = absurd is
due_by_fault how p blocks limit orders order (fault.Check f) one is = absurd is
due_by_fault how p blocks limit orders order (fault.Play f) one is = absurd is
due_by_fault how p blocks limit orders order (fault.Order f) one is = absurd is
due_by_fault how p blocks limit orders order (fault.Run f) one is = absurd is
