-- What is held at a node is fixed by the graph, although the held sets may be any that fit; and texts of which each is
-- fixed are fixed as a whole. The laws that a program has one text of its graphs stand on it. It goes by induction on
-- the number of texts.
use Rattle.std.proofs.Common.{◌≡◌, ℕ, zero, suc, ◌<◌, Bool, if◌then◌else◌, List, [], ◌∷◌, ◌++◌, length, refl, sym, ap₂, ◌∙◌, arith}
use Rattle.std.specs.List.{AllByRecursion, filter}
use Rattle.std.proofs.lemmas.Bool.Decides.{same_from_decides}
use Rattle.qs_graph.specs.audit.Nodes.{ControlGraph}
use Rattle.qs_syncset.specs.held.Flow.{Holding}
use Rattle.qs_syncset.specs.held.Table.{AreSetsOf, has}
use Rattle.qs_text.specs.audit.Texts.{texts_up_to}
use Rattle.qs_text.specs.Texts.{AreTextsUpTo}

pub same_sets : (g : ControlGraph) (one other : List (List Bool)) → AreSetsOf g one → AreSetsOf g other
    → (n : ℕ) → n < length g.nodes → (h : ℕ) → h < 8 → has one n h ≡ has other n h
same_sets g one other a b n inside h below = same_from_decides (has one n h) (has other n h) (a.exact n h inside below) (b.exact n h inside below)

pub same_filter : (f g : Holding) (hs : List ℕ) → AllByRecursion (λ h. f h ≡ g h) hs → filter f hs ≡ filter g hs
same_filter f g [] each = refl
same_filter f g (h ∷ hs) each = ap₂ (λ b l. if b then h ∷ l else l) each.0 (same_filter f g hs each.1)

pub same_texts : (text other : ℕ → List ℕ) (n : ℕ) → ((k : ℕ) → k < n → text k ≡ other k) → texts_up_to n text ≡ texts_up_to n other
same_texts text other zero same = refl
same_texts text other (suc n) same = ap₂ (λ l m. l ++ m) (same_texts text other n (λ k l. same k (omega arith))) (same n (omega arith))

pub one_up_to : (IsText : ℕ → List ℕ → Type 0) (n : ℕ) → ((k : ℕ) → k < n → (one other : List ℕ) → IsText k one → IsText k other → one ≡ other)
    → (one other : List ℕ) → AreTextsUpTo n IsText one → AreTextsUpTo n IsText other → one ≡ other
one_up_to IsText zero each one other a b = a ∙ sym b
one_up_to IsText (suc n) each one other (before, last, texts, is, e) (before2, last2, texts2, is2, f) =
    e ∙ ap₂ (λ l m. l ++ m) (one_up_to IsText n (λ k l. each k (omega arith)) before before2 texts texts2)
    (each n (omega arith) last last2 is is2) ∙ sym f
