-- What the parser makes of a list of signs: a tree and the signs after it, or how many signs are left where no reading
-- goes on.
use Rattle.std.specs.Prelude.{ℕ, zero, suc, Bool, true, false, length, List, [], ◌∷◌, ◌++◌, Option, Some, None, Result, Ok, Err, ℤ, pos}
use Rattle.std.proofs.Common.{neg_ℤ}
use Rattle.qs_script.specs.declared.tree.tree.Relation.{Relation}
use Rattle.qs_conditions.specs.declared.signs.Sign.{Sign}
use Rattle.qs_conditions.specs.declared.signs.Sign.TheVariants as s
use Rattle.qs_conditions.specs.declared.signs.Placed.{Placed}
use Rattle.qs_conditions.specs.declared.condition.Value.{Value}
use Rattle.qs_conditions.specs.declared.condition.Value.TheVariants as v
use Rattle.qs_conditions.specs.declared.condition.Summand.{Summand}
use Rattle.qs_conditions.specs.Conditions.{Tree, compare, negation, both, either}
use Rattle.qs_conditions.specs.Limits.{most_nested}
use Rattle.qs_conditions.specs.Grammar.{first_place}

-- what is read and the signs after it; or nothing, and how many signs are left where no reading goes on
abbrev pub Read : Type 0 → Type 0
Read A = Result (A × List Placed) ℕ

infixl 10 ◌>>=◌
abbrev pub ◌>>=◌ : {A B : Type 0} → Result A ℕ → (A → Result B ℕ) → Result B ℕ
Ok x >>= f = f x
Err left >>= f = Err left

-- what is found by the first sign, and the signs after that one
abbrev pub found : {A : Type 0} → (Sign → List Placed → Option A) → List Placed → Option A
found by [] = None
found by (x ∷ ts) = by x.sign ts

-- what has to be found at the front of the signs
abbrev pub due : {A : Type 0} → List Placed → Option (Result A ℕ) → Result A ℕ
due ts None = Err (length ts)
due ts (Some read) = read

-- what the second reader makes of what the first found, if it found anything
abbrev pub with_found : {A B : Type 0} → Option A → (A → B) → Option B
with_found None f = None
with_found (Some x) f = Some (f x)

-- what goes on from what is read so far, as long as it does, in at most n steps
abbrev pub go_on : {M : Type 0} → M → List Placed → Option (Read M) → (M → List Placed → Read M) → Read M
go_on m ts None next = Ok (m, ts)
go_on m ts (Some (Err left)) next = Err left
go_on m ts (Some (Ok x)) next = next x.0 x.1

abbrev pub chain_at : {M : Type 0} → (M → List Placed → Option (Read M)) → ℕ → M → List Placed → Read M
chain_at further zero m ts = Err (length ts)
chain_at further (suc n) m ts = go_on m ts (further m ts) (chain_at further n)

unfoldable pub chain : {M : Type 0} → (M → List Placed → Option (Read M)) → M → List Placed → Read M
chain further m ts = chain_at further (suc (length ts)) m ts

abbrev pub open_by : Sign → List Placed → Option (List Placed)
open_by s.Open ts = Some ts
open_by _ ts = None

abbrev pub close_by : Sign → List Placed → Option (List Placed)
close_by s.Close ts = Some ts
close_by _ ts = None

abbrev pub minus_by : Sign → List Placed → Option (List Placed)
minus_by s.Minus ts = Some ts
minus_by _ ts = None

abbrev pub and_by : Sign → List Placed → Option (List Placed)
and_by s.And ts = Some ts
and_by _ ts = None

abbrev pub or_by : Sign → List Placed → Option (List Placed)
or_by s.Or ts = Some ts
or_by _ ts = None

abbrev pub dot_by : Sign → List Placed → Option (Result (List Placed) ℕ)
dot_by s.Dot ts = Some (Ok ts)
dot_by _ ts = None

abbrev pub comma_by : Sign → List Placed → Option (Result (List Placed) ℕ)
comma_by s.Comma ts = Some (Ok ts)
comma_by _ ts = None

abbrev pub closed_by : Sign → List Placed → Option (Result (List Placed) ℕ)
closed_by s.Close ts = Some (Ok ts)
closed_by _ ts = None

abbrev pub name_by : Sign → List Placed → Option (Read (List ℕ))
name_by (s.Name n) ts = Some (Ok (n, ts))
name_by _ ts = None

abbrev pub natural_by : Sign → List Placed → Option (Read ℕ)
natural_by (s.Number n) ts = Some (Ok (n, ts))
natural_by _ ts = None

abbrev pub relation_by : Sign → List Placed → Option (Read Relation)
relation_by (s.Relation r) ts = Some (Ok (r, ts))
relation_by _ ts = None

-- the sign of a further summand: whether it is a minus
abbrev pub link_by : Sign → List Placed → Option (Bool × List Placed)
link_by s.Plus ts = Some (false, ts)
link_by s.Minus ts = Some (true, ts)
link_by _ ts = None

abbrev pub dot_at : List Placed → Result (List Placed) ℕ
dot_at ts = due ts (found dot_by ts)

abbrev pub comma_at : List Placed → Result (List Placed) ℕ
comma_at ts = due ts (found comma_by ts)

abbrev pub closed_at : List Placed → Result (List Placed) ℕ
closed_at ts = due ts (found closed_by ts)

abbrev pub name_at : List Placed → Read (List ℕ)
name_at ts = due ts (found name_by ts)

abbrev pub natural_at : List Placed → Read ℕ
natural_at ts = due ts (found natural_by ts)

abbrev pub relation_at : List Placed → Read Relation
relation_at ts = due ts (found relation_by ts)

abbrev pub number_by : Sign → List Placed → Option (Read ℤ)
number_by (s.Number n) ts = Some (Ok (pos n, ts))
number_by s.Minus ts = Some (natural_at ts >>= λ n. Ok (neg_ℤ (pos n.0), n.1))
number_by _ ts = None

abbrev pub number_at : List Placed → Read ℤ
number_at ts = due ts (found number_by ts)

-- these numbers, where a bracket closes them, and else what is read
abbrev pub closed_or : List ℤ → Option (List Placed) → Read (List ℤ) → Read (List ℤ)
closed_or zs None read = read
closed_or zs (Some rest) read = Ok (zs, rest)

-- the arguments from these on, of which at most n may follow, and the bracket that closes them
abbrev pub more_at : ℕ → List ℤ → List Placed → Read (List ℤ)
more_at zero zs ts = closed_or zs (found close_by ts) (Err (length ts))
more_at (suc n) zs ts =
    closed_or zs (found close_by ts) (comma_at ts >>= λ x. number_at x >>= λ z. more_at n (zs ++ z.0 ∷ []) z.1)

-- the arguments, and the bracket that closes them
abbrev pub args_at : List Placed → Read (List ℤ)
args_at ts = closed_or [] (found close_by ts) (number_at ts >>= λ z. more_at 2 (z.0 ∷ []) z.1)

-- a variable, or a query's reply where a bracket opens
abbrev pub variable_or : List ℕ → List ℕ → List Placed → Option (List Placed) → Read Value
variable_or first second ts None = Ok (v.Variable first second, ts)
variable_or first second ts (Some rest) = args_at rest >>= λ zs. Ok (v.Reply first second zs.0, zs.1)

-- a value that begins with that name
abbrev pub named_at : List ℕ → List Placed → Read Value
named_at first ts =
    dot_at ts >>= λ x. name_at x >>= λ n. variable_or first n.0 n.1 (found open_by n.1)

abbrev pub value_by : Sign → List Placed → Option (Read Value)
value_by (s.Number n) ts = Some (Ok (v.Number (pos n), ts))
value_by (s.Name n) ts = Some (named_at n ts)
value_by _ ts = None

abbrev pub value_at : List Placed → Read Value
value_at ts = due ts (found value_by ts)

abbrev pub summand_of : ℕ → Bool → Value → Summand
summand_of place negative value = record { place = place; negative = negative; value = value }

abbrev pub summand_at : Bool → List Placed → Read Summand
summand_at negative ts = value_at ts >>= λ x. Ok (summand_of (first_place 0 ts) negative x.0, x.1)

abbrev pub minus_or : List Placed → Option (List Placed) → Read Summand
minus_or ts None = summand_at false ts
minus_or ts (Some rest) = summand_at true rest

abbrev pub first_at : List Placed → Read Summand
first_at ts = minus_or ts (found minus_by ts)

-- one more summand
abbrev pub sum_further : List Summand → List Placed → Option (Read (List Summand))
sum_further xs ts =
    with_found (found link_by ts) (λ p. summand_at p.0 p.1 >>= λ x. Ok (xs ++ x.0 ∷ [], x.1))

abbrev pub sum_at : List Placed → Read (List Summand)
sum_at ts = first_at ts >>= λ x. chain sum_further (x.0 ∷ []) x.1

abbrev pub comparison_at : List Placed → Read Tree
comparison_at ts =
    sum_at ts >>= λ a. relation_at a.1 >>= λ r. sum_at r.1 >>= λ b. Ok (compare a.0 r.0 b.0, b.1)

-- one more condition with && before it
abbrev pub and_further : (List Placed → Read Tree) → Tree → List Placed → Option (Read Tree)
and_further part c ts = with_found (found and_by ts) (λ rest. part rest >>= λ d. Ok (both c d.0, d.1))

abbrev pub both_of : (List Placed → Read Tree) → List Placed → Read Tree
both_of part ts = part ts >>= λ c. chain (and_further part) c.0 c.1

-- one more condition with || before it
abbrev pub or_further : (List Placed → Read Tree) → Tree → List Placed → Option (Read Tree)
or_further part c ts = with_found (found or_by ts) (λ rest. both_of part rest >>= λ d. Ok (either c d.0, d.1))

abbrev pub either_of : (List Placed → Read Tree) → List Placed → Read Tree
either_of part ts = both_of part ts >>= λ c. chain (or_further part) c.0 c.1

abbrev pub negation_of : (List Placed → Read Tree) → List Placed → Read Tree
negation_of part ts = part ts >>= λ c. Ok (negation c.0, c.1)

abbrev pub nested_of : (List Placed → Read Tree) → List Placed → Read Tree
nested_of part ts = either_of part ts >>= λ c. closed_at c.1 >>= λ rest. Ok (c.0, rest)

-- what stands in brackets or behind a negation, where one of these begins
abbrev pub inner_by : (List Placed → Read Tree) → Sign → List Placed → Option (Read Tree)
inner_by part s.Not ts = Some (negation_of part ts)
inner_by part s.Open ts = Some (nested_of part ts)
inner_by part _ ts = None

abbrev pub or_comparison : List Placed → Option (Read Tree) → Read Tree
or_comparison ts None = comparison_at ts
or_comparison ts (Some read) = read

-- a part, where at most `nested` of ! and ( stand one inside another
abbrev pub part_in : ℕ → List Placed → Read Tree
part_in zero ts = comparison_at ts
part_in (suc nested) ts = or_comparison ts (found (inner_by (part_in nested)) ts)

abbrev pub both_in : ℕ → List Placed → Read Tree
both_in nested = both_of (part_in nested)

abbrev pub either_in : ℕ → List Placed → Read Tree
either_in nested = either_of (part_in nested)

-- nothing may follow
abbrev pub at_end : {A : Type 0} → A → List Placed → Result A ℕ
at_end a [] = Ok a
at_end a (x ∷ ts) = Err (length (x ∷ ts))

-- the tree of all the signs, or how many are left where no reading goes on
abbrev pub tree_of : List Placed → Result Tree ℕ
tree_of ts = either_in most_nested ts >>= λ c. at_end c.0 c.1

-- the sum of all the signs, likewise
abbrev pub whole_sum : List Placed → Result (List Summand) ℕ
whole_sum ts = sum_at ts >>= λ x. at_end x.0 x.1
