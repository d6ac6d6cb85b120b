-- A request of which its numbers say nothing fares otherwise in some state of its object's kind, which is given here.
-- So the test finds each request that is always refused or always answered by 0. The law on it, `CertaintiesAreAll`, is
-- proved here, by cases on the object and the operation, which arithmetic finds.
use Rattle.std.proofs.Common.{◌≡◌, List, [], ◌∷◌, ℕ, zero, suc, pos, Some, None, IsSome, true, length, map, replicate, Option, arith, rules, refl, sym, ◌∙◌}
use Rattle.std.proofs.lemmas.Grind.{common_steps}
use Rattle.std.proofs.lemmas.List.{length-replicate, get_or-replicate}
use Rattle.qs_objects.proofs.GridRows.{even_filled}
use Rattle.qs_objects.specs.audit.Act.{State, account, act, buffer, exact_sum, greatest_balance, grid, refusing, replying, size_of}
use Rattle.qs_objects.specs.audit.Objects.{starts}
use Rattle.qs_objects.specs.audit.Operations.{arity}
use Rattle.qs_objects.specs.Operations.{fits}
use Rattle.qs_objects.specs.declared.Op.{Op}
use Rattle.qs_objects.specs.declared.Op.TheVariants.{Withdraw, DropFirst}
use Rattle.qs_objects.specs.declared.object.Kind.{Kind}
use Rattle.qs_objects.specs.declared.object.Kind.TheVariants.{Account, Buffer, Grid}
use Rattle.qs_program.specs.audit.Values.{atom_value}
use Rattle.qs_program.specs.declared.code.Atom.{Atom}
use Rattle.qs_messages.proofs.CertaintyLaws.{refused as refused_is, zero as zero_is}
use Rattle.qs_messages.specs.declared.warned.certainties.Certainty.{Certainty}
use Rattle.qs_messages.specs.declared.warned.certainties.Certainty.TheVariants.{Refused, Zero}
use Rattle.qs_messages.specs.Certainties.{IsAlwaysRefused, IsAlwaysZero, IsRequestTo, IsStateOf, certainty_of}

-- a state in which a command is done unless it is always refused
abbrev doing : Kind → Op → State
doing (Account b) Withdraw = record { content = account greatest_balance; refused = pos 0 }
doing (Account b) op = record { content = account (pos 0); refused = pos 0 }
doing (Buffer k) DropFirst = record { content = buffer (size_of k) (pos 1 ∷ []); refused = pos 0 }
doing (Buffer k) op = record { content = buffer (size_of k) []; refused = pos 0 }
doing (Grid n k) op = record { content = grid (size_of k) (replicate (size_of n) (replicate (size_of k) (pos 1))); refused = pos 0 }

pub doing_is : (kind : Kind) (op : Op) → IsSome (starts kind) → IsStateOf kind (doing kind op)
doing_is = grind (arith, common_steps, length-replicate, even_filled)

pub done : (kind : Kind) (op : Op) (args : List Atom) → IsSome (starts kind) → fits op kind ≡ true → length args ≡ arity op → certainty_of kind op args ≡ None
    → act (doing kind op) op (map (atom_value []) args) ≡ refusing (doing kind op) → ⊥
done = grind (arith, common_steps, length-replicate)

-- a state in which a query answers 1, or another number that is not 0, unless it always answers 0
abbrev telling : Kind → State
telling (Account b) = record { content = account (pos 1); refused = pos 1 }
telling (Buffer k) = record { content = buffer (size_of k) (pos 1 ∷ []); refused = pos 1 }
telling (Grid n k) = record { content = grid (size_of k) (replicate (size_of n) (replicate (size_of k) (pos 1))); refused = pos 1 }

pub telling_is : (kind : Kind) → IsSome (starts kind) → IsStateOf kind (telling kind)
telling_is = grind (arith, common_steps, length-replicate, even_filled)

sum_ones : (k : ℕ) → exact_sum (replicate k (pos 1)) ≡ pos k
sum_ones zero = refl
sum_ones (suc k) = grind (arith, sum_ones k)

pub certain : (kind : Kind) (op : Op) (args : List Atom) → IsSome (starts kind) → fits op kind ≡ true → length args ≡ arity op → certainty_of kind op args ≡ None
    → act (telling kind) op (map (atom_value []) args) ≡ replying (telling kind) (pos 0) → ⊥
certain = grind (arith, common_steps, length-replicate, get_or-replicate, sum_ones)

not_both : (s : State) → replying s (pos 0) ≡ refusing s → ⊥
not_both s e = search rules

pub all_refused : (kind : Kind) (op : Op) (args : List Atom) → IsRequestTo kind op args → IsAlwaysRefused kind op args → certainty_of kind op args ≡ Some Refused
all_refused kind op args fits always = by_case (certainty_of kind op args) refl
  where
    here : act (doing kind op) op (map (atom_value []) args) ≡ refusing (doing kind op)
    here = always (doing kind op) [] (doing_is kind op fits.declared)

    by_case : (f : Option Certainty) → certainty_of kind op args ≡ f → certainty_of kind op args ≡ Some Refused
    by_case None e = absurd (done kind op args fits.declared fits.fitting fits.long e here)
    by_case (Some Refused) e = e
    by_case (Some Zero) e = absurd (not_both (doing kind op) (sym (zero_is kind op args e (doing kind op) [] (doing_is kind op fits.declared)) ∙ here))

pub all_zero : (kind : Kind) (op : Op) (args : List Atom) → IsRequestTo kind op args → IsAlwaysZero kind op args → certainty_of kind op args ≡ Some Zero
all_zero kind op args fits always = by_case (certainty_of kind op args) refl
  where
    here : act (telling kind) op (map (atom_value []) args) ≡ replying (telling kind) (pos 0)
    here = always (telling kind) [] (telling_is kind fits.declared)

    by_case : (f : Option Certainty) → certainty_of kind op args ≡ f → certainty_of kind op args ≡ Some Zero
    by_case None e = absurd (certain kind op args fits.declared fits.fitting fits.long e here)
    by_case (Some Zero) e = e
    by_case (Some Refused) e = absurd (not_both (telling kind) (sym here ∙ refused_is kind op args e (telling kind) [] (telling_is kind fits.declared)))
