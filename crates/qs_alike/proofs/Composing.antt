-- Changes one after another, none, and undone: so what configurations become is an equivalence. Of what one becomes one
-- alone is arranged.
use Rattle.std.proofs.Common.{◌≡◌, ℕ, refl, sym, ap, ◌∙◌, subst, arith, length}
use Rattle.qs_alike.proofs.Common.{client_at, Configuration, ProgramShape}
use Rattle.qs_alike.specs.Arranged.{IsArranged}
use Rattle.qs_alike.specs.Changes.{AreAlone, AreClasses, Becomes, Change, Classes, IsChange, changed}
use Rattle.qs_alike.proofs.Arranging.{arranged_once}

-- one change after another
abbrev pub then_changed : Change → Change → Change
then_changed x y = record { new = λ c. y.new (x.new c); old = λ c. x.old (y.old c) }

pub then_is : (k : Classes) (x y : Change) → IsChange k x → IsChange k y → IsChange k (then_changed x y)
then_is k x y a b = record {
  there = λ c. ap x.old (b.there (x.new c)) ∙ a.there c;
  back = λ c. ap y.new (a.back (y.old c)) ∙ b.back c;
  alike = λ c. b.alike (x.new c) ∙ a.alike c;
}

-- nobody's place is another's
abbrev pub no_change : Change
no_change = record { new = λ c. c; old = λ c. c }

pub no_change_is : (k : Classes) → IsChange k no_change
no_change_is k = record { there = λ c. refl; back = λ c. refl; alike = λ c. refl }

-- a change undone
abbrev pub undone : Change → Change
undone x = record { new = x.old; old = x.new }

pub undone_is : (k : Classes) (x : Change) → IsChange k x → IsChange k (undone x)
undone_is k x is = record {
  there = is.back;
  back = is.there;
  alike = λ c. sym (ap k (sym (is.back c)) ∙ is.alike (x.old c));
}

pub becomes_itself : (k : Classes) (g : Configuration) → Becomes k g g
becomes_itself k g = (no_change, no_change_is k, refl)

pub becomes_same : (k : Classes) (g h : Configuration) → h ≡ g → Becomes k g h
becomes_same k g h e = (no_change, no_change_is k, e)

pub becomes_then : (k : Classes) (f g h : Configuration) → Becomes k f g → Becomes k g h → Becomes k f h
becomes_then k f g h (x, a, e) (y, b, i) = (then_changed x y, then_is k x y a b, i ∙ ap (changed y) e)

pub becomes_back : (k : Classes) (g h : Configuration) → Becomes k g h → Becomes k h g
becomes_back k g h (x, is, e) = (
  undone x,
  undone_is k x is,
  sym (ap (changed (undone x)) e
      ∙ (λ i. record { begun = λ c. g.begun (is.there c i); locals = λ c. g.locals (is.there c i); states = g.states })),
)

-- what two become from one they become from one another
pub becomes_across : (k : Classes) (f g h : Configuration) → Becomes k f g → Becomes k f h → Becomes k g h
becomes_across k f g h one other = becomes_then k g f h (becomes_back k f g one) other

-- of what one configuration becomes one alone is arranged
pub one_arranged : (k : Classes) (f g h : Configuration) → Becomes k f g → Becomes k f h → IsArranged k g → IsArranged k h → h ≡ g
one_arranged k f g h one other first second =
    let b = becomes_across k f g h one other in
    b.2 ∙ arranged_once k b.0 b.1 g first (subst (IsArranged k) b.2 second)

-- where all are alone nothing becomes another
pub becomes_alone : (k : Classes) → AreAlone k → (g h : Configuration) → Becomes k g h → h ≡ g
becomes_alone k alone g h (x, is, e) =
    let stays : (c : ℕ) → x.old c ≡ c = λ c. alone (x.old c) c (sym (is.alike (x.old c)) ∙ ap k (is.back c)) in
    e ∙ (λ i. record { begun = λ c. g.begun (stays c i); locals = λ c. g.locals (stays c i); states = g.states })

pub arranged_alone : (k : Classes) → AreAlone k → (g : Configuration) → IsArranged k g
arranged_alone k alone g c d less same l = absurd (differ (alone c d same))
  where
    differ : c ≡ d → ⊥
    differ e = let h = less in omega (arith, h, e)

-- clients that are alone are classes of any program
pub alone_classes : (p : ProgramShape) (k : Classes) → AreAlone k → AreClasses p k
alone_classes p k alone = record {
  blocks = λ c d same. ap (λ e. (client_at p e).blocks) (alone c d same);
  variables = λ c d same. ap (λ e. length (client_at p e).variables) (alone c d same);
  alone = λ c d past same. alone c d same;
}
