-- The grammar. In each relation what is said stands from the first of the signs ts up to before the first of the signs
-- rest.
use Rattle.std.specs.Prelude.{◌≡◌, ◌⊎◌, ℕ, zero, suc, ◌≤◌, Bool, true, false, List, [], ◌∷◌, length, ℤ, pos}
use Rattle.std.proofs.Common.{neg_ℤ}
use Rattle.qs_conditions.specs.declared.signs.Sign.{Sign}
use Rattle.qs_conditions.specs.declared.signs.Sign.TheVariants as s
use Rattle.qs_conditions.specs.declared.signs.Placed.{Placed}
use Rattle.qs_conditions.specs.declared.condition.Value.{Value}
use Rattle.qs_conditions.specs.declared.condition.Value.TheVariants as v
use Rattle.qs_conditions.specs.declared.condition.Summand.{Summand}
use Rattle.qs_conditions.specs.Conditions.{Tree, compare, negation, both, either}
use Rattle.qs_conditions.specs.Limits.{most_nested, most_arguments}

-- the first sign is this one
abbrev pub Begins : Sign → List Placed → List Placed → Type 0
Begins sign ts rest = (x : Placed) × (x.sign ≡ sign) × (ts ≡ x ∷ rest)

-- the place of the first sign, or that of the end
abbrev pub first_place : ℕ → List Placed → ℕ
first_place end [] = end
first_place end (x ∷ ts) = x.place

-- N | "-" N
abbrev pub IsNumber : ℤ → List Placed → List Placed → Type 0
IsNumber z ts rest =
    (n : ℕ) × (((z ≡ pos n) × Begins (s.Number n) ts rest)
    ⊎ ((z ≡ neg_ℤ (pos n)) × (x : List Placed) × Begins s.Minus ts x × Begins (s.Number n) x rest))

-- ("," number)* ")"
abbrev pub AreMore : List ℤ → List Placed → List Placed → Type 0
AreMore [] ts rest = Begins s.Close ts rest
AreMore (z ∷ zs) ts rest = (x y : List Placed) × Begins s.Comma ts x × IsNumber z x y × AreMore zs y rest

-- [number ("," number)*] ")"
abbrev pub AreNumbers : List ℤ → List Placed → List Placed → Type 0
AreNumbers [] ts rest = Begins s.Close ts rest
AreNumbers (z ∷ zs) ts rest = (x : List Placed) × IsNumber z ts x × AreMore zs x rest

-- N | name "." name | name "." name "(" [number ("," number)*] ")", with at most three numbers
abbrev pub IsValue : Value → List Placed → List Placed → Type 0
IsValue (v.Number z) ts rest = (n : ℕ) × (z ≡ pos n) × Begins (s.Number n) ts rest
IsValue (v.Variable client variable) ts rest =
    (x y : List Placed) × Begins (s.Name client) ts x × Begins s.Dot x y × Begins (s.Name variable) y rest
IsValue (v.Reply object op args) ts rest =
    (x y z w : List Placed) × Begins (s.Name object) ts x × Begins s.Dot x y × Begins (s.Name op) y z
    × Begins s.Open z w × AreNumbers args w rest × (length args ≤ most_arguments)

-- value; its place is that of its first sign
abbrev pub IsSummand : Summand → List Placed → List Placed → Type 0
IsSummand x ts rest = (x.place ≡ first_place 0 ts) × IsValue x.value ts rest

abbrev pub plus_or_minus : Bool → Sign
plus_or_minus true = s.Minus
plus_or_minus false = s.Plus

-- (("+" | "-") value)*
abbrev pub AreFurther : List Summand → List Placed → List Placed → Type 0
AreFurther [] ts rest = ts ≡ rest
AreFurther (x ∷ xs) ts rest =
    (y z : List Placed) × Begins (plus_or_minus x.negative) ts y × IsSummand x y z × AreFurther xs z rest

-- ["-"] value
abbrev pub IsFirst : Summand → List Placed → List Placed → Type 0
IsFirst x ts rest =
    ((x.negative ≡ false) × IsSummand x ts rest)
    ⊎ ((x.negative ≡ true) × (y : List Placed) × Begins s.Minus ts y × IsSummand x y rest)

-- ["-"] value (("+" | "-") value)*
abbrev pub IsSum : List Summand → List Placed → List Placed → Type 0
IsSum [] ts rest = ⊥
IsSum (x ∷ xs) ts rest = (y : List Placed) × IsFirst x ts y × AreFurther xs y rest

-- what trees stand for which signs
abbrev pub Phrase : Type 1
Phrase = Tree → List Placed → List Placed → Type 0

-- sum relation sum
abbrev pub IsComparison : Phrase
IsComparison (compare left r right) ts rest =
    (x y : List Placed) × IsSum left ts x × Begins (s.Relation r) x y × IsSum right y rest
IsComparison _ ts rest = ⊥

-- part ("&&" part)*, from the left
abbrev pub IsBothOf : Phrase → Phrase
IsBothOf IsPart (both c d) ts rest =
    IsPart (both c d) ts rest
    ⊎ ((x y : List Placed) × IsBothOf IsPart c ts x × Begins s.And x y × IsPart d y rest)
IsBothOf IsPart c ts rest = IsPart c ts rest

-- both ("||" both)*, from the left
abbrev pub IsEitherOf : Phrase → Phrase
IsEitherOf IsPart (either c d) ts rest =
    IsBothOf IsPart (either c d) ts rest
    ⊎ ((x y : List Placed) × IsEitherOf IsPart c ts x × Begins s.Or x y × IsBothOf IsPart d y rest)
IsEitherOf IsPart c ts rest = IsBothOf IsPart c ts rest

-- "!" part
abbrev pub IsNegation : Phrase → Phrase
IsNegation IsPart (negation c) ts rest = (x : List Placed) × Begins s.Not ts x × IsPart c x rest
IsNegation IsPart _ ts rest = ⊥

-- "(" either ")"
abbrev pub IsNested : Phrase → Phrase
IsNested IsPart c ts rest =
    (x y : List Placed) × Begins s.Open ts x × IsEitherOf IsPart c x y × Begins s.Close y rest

-- "!" part | "(" either ")" | sum relation sum, where at most `nested` of "!" and "(" stand one inside another
abbrev pub IsPart : ℕ → Phrase
IsPart zero c ts rest = IsComparison c ts rest
IsPart (suc nested) c ts rest =
    IsComparison c ts rest ⊎ (IsNegation (IsPart nested) c ts rest ⊎ IsNested (IsPart nested) c ts rest)

abbrev pub IsEither : ℕ → Phrase
IsEither nested = IsEitherOf (IsPart nested)

-- the condition is all that the signs say
abbrev pub IsCondition : Tree → List Placed → Type 0
IsCondition c ts = IsEither most_nested c ts []

-- the sum is all that the signs say
abbrev pub IsWholeSum : List Summand → List Placed → Type 0
IsWholeSum xs ts = IsSum xs ts []
