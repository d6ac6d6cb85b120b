-- Whatever the definition of the reader makes of a list of signs is a condition by the grammar. The promise of the
-- reader that its result belongs to the text stands on `condition_sound`. There is a lemma for each construct; the
-- chains go by induction on their steps, and parts by induction on how many may stand one inside another.
use Rattle.std.proofs.Common.{◌≡◌, ◌⊎◌, ℕ, zero, suc, ◌≤◌, inl, inr, Bool, true, false, List, [], ◌∷◌, ◌++◌, length, refl, ap, sym, subst, ◌∙◌, arith, append_assoc, append-nil, Option, Some, None, Result, Ok, Err, ℤ, pos, neg_ℤ}
use Rattle.qs_conditions.specs.declared.signs.Sign.{Sign}
use Rattle.qs_conditions.specs.declared.signs.Sign.TheVariants as s
use Rattle.qs_conditions.specs.declared.signs.Placed.{Placed}
use Rattle.qs_conditions.specs.declared.condition.Value.{Value}
use Rattle.qs_conditions.specs.declared.condition.Value.TheVariants as v
use Rattle.qs_conditions.specs.declared.condition.Summand.{Summand}
use Rattle.qs_conditions.specs.Conditions.{Tree, compare, negation, both, either}
use Rattle.qs_conditions.specs.Grammar.{Begins, first_place, IsNumber, AreMore, AreNumbers, IsValue, IsSummand, plus_or_minus, AreFurther, IsFirst, IsSum, Phrase, IsComparison, IsBothOf, IsEitherOf, IsNegation, IsNested, IsPart, IsCondition, IsWholeSum}
use Rattle.qs_conditions.specs.Reading.{Read, ◌>>=◌, found, due, with_found, go_on, chain_at, chain, open_by, close_by, minus_by, and_by, or_by, dot_by, comma_by, closed_by, name_by, natural_by, relation_by, link_by, dot_at, comma_at, closed_at, name_at, natural_at, relation_at, number_by, number_at, closed_or, more_at, args_at, variable_or, named_at, value_by, value_at, summand_of, summand_at, minus_or, first_at, sum_further, sum_at, comparison_at, and_further, both_of, or_further, either_of, inner_by, or_comparison, part_in, either_in, at_end, tree_of, whole_sum}

bind_some : {A B : Type 0} (r : Result A ℕ) (f : A → Result B ℕ) (y : B) → (r >>= f) ≡ Ok y → (x : A) × (r ≡ Ok x) × f x ≡ Ok y
bind_some r f y p = grind arith

-- the last step of what is read
bind_last : {A B : Type 0} (r : Result A ℕ) (f : A → B) (y : B) → (r >>= λ x. Ok (f x)) ≡ Ok y → (x : A) × (r ≡ Ok x) × f x ≡ y
bind_last r f y p = grind arith

abbrev got : {A : Type 0} → A → Result A ℕ
got x = Ok x

ok_inj : {A : Type 0} (x y : A) → got x ≡ got y → x ≡ y
ok_inj x y p = cc

some_inj : {A : Type 0} (x y : A) → Some x ≡ Some y → x ≡ y
some_inj x y p = cc

due_some : {A : Type 0} (ts : List Placed) (o : Option (Result A ℕ)) (x : A) → due ts o ≡ Ok x → o ≡ Some (Ok x)
due_some ts o x p = grind arith

-- what is found is found at a first sign
found_some : {A : Type 0} (by : Sign → List Placed → Option A) (ts : List Placed) (y : A) → found by ts ≡ Some y → (x : Placed) × (us : List Placed) × (ts ≡ x ∷ us) × by x.sign us ≡ Some y
found_some by [] y p = cc
found_some by (x ∷ us) y p = (x, us, refl, p)

-- what is looked for is a sign, with what it holds
abbrev Finds : {X : Type 0} → (Sign → List Placed → Option X) → Sign → X → List Placed → Type 0
Finds by sign x rest = (t : Sign) (us : List Placed) → by t us ≡ Some x → (t ≡ sign) × (us ≡ rest)

found_begins : {X : Type 0} (by : Sign → List Placed → Option X) (sign : Sign) (x : X) (ts rest : List Placed) → Finds by sign x rest → found by ts ≡ Some x → Begins sign ts rest
found_begins by sign x ts rest finds p =
    let (y, us, e, q) = found_some by ts x p in
    let k = finds y.sign us q in (y, k.0, e ∙ ap (λ ws. y ∷ ws) k.1)

close_begins : (ts rest : List Placed) → found close_by ts ≡ Some rest → Begins s.Close ts rest
close_begins ts rest p = found_begins close_by s.Close rest ts rest (λ t us q. grind arith) p

-- a sign that is due
due_begins : {A : Type 0} (by : Sign → List Placed → Option (Result A ℕ)) (sign : Sign) (x : A) (ts rest : List Placed) → Finds by sign (Ok x) rest → due ts (found by ts) ≡ Ok x → Begins sign ts rest
due_begins by sign x ts rest finds p = found_begins by sign (Ok x) ts rest finds (due_some ts (found by ts) x p)

natural_begins : (ts : List Placed) (x : ℕ × List Placed) → natural_at ts ≡ Ok x → Begins (s.Number x.0) ts x.1
natural_begins ts x p = due_begins natural_by (s.Number x.0) x ts x.1 (λ t us q. grind arith) p

-- numbers
number_by_sound : (t : Sign) (us : List Placed) (x : ℤ × List Placed) (first : Placed) (ts : List Placed) → number_by t us ≡ Some (Ok x) → first.sign ≡ t → ts ≡ first ∷ us → IsNumber x.0 ts x.1
number_by_sound (s.Number n) us x first ts p q e =
    let k : (pos n, us) ≡ x = cc in subst (λ y. IsNumber y.0 ts y.1) k (n, inl (refl, (first, q, e)))
number_by_sound s.Minus us x first ts p q e =
    let (n, u, k) = bind_last (natural_at us) (λ n. (neg_ℤ (pos n.0), n.1)) x (some_inj _ _ p) in
    subst (λ y. IsNumber y.0 ts y.1) k (n.0, inr (refl, us, (first, q, e), natural_begins us n u))
number_by_sound _ us x first ts p q e = cc

number_sound : (ts : List Placed) (x : ℤ × List Placed) → number_at ts ≡ Ok x → IsNumber x.0 ts x.1
number_sound ts x p =
    let (y, us, e, q) = found_some number_by ts (Ok x) (due_some ts (found number_by ts) x p) in number_by_sound y.sign us x y ts q refl e

-- arguments from some on
abbrev Extends : ℕ → List ℤ → List Placed → List ℤ × List Placed → Type 0
Extends n done ts x = (zs : List ℤ) × (x.0 ≡ done ++ zs) × AreMore zs ts x.1 × (length zs ≤ n)

no_more : (n : ℕ) (done : List ℤ) (ts rest : List Placed) → found close_by ts ≡ Some rest → Extends n done ts (done, rest)
no_more n done ts rest e = ([], sym (append-nil done), close_begins ts rest e, omega arith)

closed_sound : (P : List ℤ × List Placed → Type 0) (zs : List ℤ) (o : Option (List Placed)) (read : Read (List ℤ)) (x : List ℤ × List Placed) → closed_or zs o read ≡ Ok x
    → ((rest : List Placed) → o ≡ Some rest → P (zs, rest)) → (read ≡ Ok x → P x) → P x
closed_sound P zs None read x p closed other = other p
closed_sound P zs (Some rest) read x p closed other = subst P (ok_inj _ x p) (closed rest refl)

more_sound : (n : ℕ) (done : List ℤ) (ts : List Placed) (x : List ℤ × List Placed) → more_at n done ts ≡ Ok x → Extends n done ts x
more_sound zero done ts x p = closed_sound (Extends 0 done ts) done (found close_by ts) (Err (length ts)) x p (no_more 0 done ts) (λ q. cc)
more_sound (suc n) done ts x p =
    closed_sound (Extends (suc n) done ts) done (found close_by ts) (comma_at ts >>= λ x. number_at x >>= λ z. more_at n (done ++ z.0 ∷ []) z.1) x p (no_more (suc n) done ts) (λ q.
    (let (u, b, p') = bind_some (comma_at ts) (λ x. number_at x >>= λ z. more_at n (done ++ z.0 ∷ []) z.1) x q in
    let (z, h, p'') = bind_some (number_at u) (λ z. more_at n (done ++ z.0 ∷ []) z.1) x p' in
    let (zs, e, k, few) = more_sound n (done ++ z.0 ∷ []) z.1 x p'' in
    (z.0 ∷ zs, e ∙ append_assoc done (z.0 ∷ []) zs, (u, z.1, due_begins comma_by s.Comma u ts u (λ t us q. grind arith) b, number_sound u z h, k), omega (arith, few))))

abbrev AreArgs : List Placed → List ℤ × List Placed → Type 0
AreArgs ts x = AreNumbers x.0 ts x.1 × (length x.0 ≤ 3)

args_sound : (ts : List Placed) (x : List ℤ × List Placed) → args_at ts ≡ Ok x → AreArgs ts x
args_sound ts x p =
    closed_sound (AreArgs ts) [] (found close_by ts) (number_at ts >>= λ z. more_at 2 (z.0 ∷ []) z.1) x p (λ rest e. (close_begins ts rest e, omega arith)) (λ q.
    (let (z, h, p') = bind_some (number_at ts) (λ z. more_at 2 (z.0 ∷ []) z.1) x q in
    let (zs, e, k, few) = more_sound 2 (z.0 ∷ []) z.1 x p' in
    subst (λ ws. AreNumbers ws ts x.1 × (length ws ≤ 3)) (sym e) ((z.1, number_sound ts z h, k), omega (arith, few))))

-- values
variable_sound : (n m : List ℕ) (ts us ws zs : List Placed) (o : Option (List Placed)) (x : Value × List Placed) → Begins (s.Name n) ts us → Begins s.Dot us ws → Begins (s.Name m) ws zs → found open_by zs ≡ o → variable_or n m zs o ≡ Ok x → IsValue x.0 ts x.1
variable_sound n m ts us ws zs None x b d k e p =
    subst (λ y. IsValue y.0 ts y.1) (ok_inj _ x p) (us, ws, b, d, k)
variable_sound n m ts us ws zs (Some rest) x b d k e p =
    let (a, h, q) = bind_last (args_at rest) (λ a. (v.Reply n m a.0, a.1)) x p in
    let g = args_sound rest a h in
    subst (λ y. IsValue y.0 ts y.1) q (us, ws, zs, rest, b, d, k, found_begins open_by s.Open rest zs rest (λ t us q. grind arith) e, g.0, g.1)

named_sound : (n : List ℕ) (ts us : List Placed) (x : Value × List Placed) → Begins (s.Name n) ts us → named_at n us ≡ Ok x → IsValue x.0 ts x.1
named_sound n ts us x b p =
    let (w, d, p') = bind_some (dot_at us) (λ x. name_at x >>= λ m. variable_or n m.0 m.1 (found open_by m.1)) x p in
    let (m, k, p'') = bind_some (name_at w) (λ m. variable_or n m.0 m.1 (found open_by m.1)) x p' in
    variable_sound n m.0 ts us w m.1 (found open_by m.1) x b (due_begins dot_by s.Dot w us w (λ t us q. grind arith) d) (due_begins name_by (s.Name m.0) m w m.1 (λ t us q. grind arith) k) refl p''

value_by_sound : (t : Sign) (us : List Placed) (x : Value × List Placed) (first : Placed) (ts : List Placed) → value_by t us ≡ Some (Ok x) → first.sign ≡ t → ts ≡ first ∷ us → IsValue x.0 ts x.1
value_by_sound (s.Number n) us x first ts p q e =
    let k : (v.Number (pos n), us) ≡ x = cc in subst (λ y. IsValue y.0 ts y.1) k (n, refl, (first, q, e))
value_by_sound (s.Name n) us x first ts p q e = named_sound n ts us x (first, q, e) (some_inj _ _ p)
value_by_sound _ us x first ts p q e = cc

value_sound : (ts : List Placed) (x : Value × List Placed) → value_at ts ≡ Ok x → IsValue x.0 ts x.1
value_sound ts x p =
    let (y, us, e, q) = found_some value_by ts (Ok x) (due_some ts (found value_by ts) x p) in value_by_sound y.sign us x y ts q refl e

summand_sound : (negative : Bool) (ts : List Placed) (x : Summand × List Placed) → summand_at negative ts ≡ Ok x → (x.0.negative ≡ negative) × IsSummand x.0 ts x.1
summand_sound negative ts x p =
    let (y, h, q) = bind_last (value_at ts) (λ y. (summand_of (first_place 0 ts) negative y.0, y.1)) x p in
    subst (λ z. (z.0.negative ≡ negative) × IsSummand z.0 ts z.1) q (refl, (refl, value_sound ts y h))

minus_or_sound : (ts : List Placed) (o : Option (List Placed)) (x : Summand × List Placed) → found minus_by ts ≡ o → minus_or ts o ≡ Ok x → IsFirst x.0 ts x.1
minus_or_sound ts None x e p = let h = summand_sound false ts x p in inl (h.0, h.1)
minus_or_sound ts (Some rest) x e p =
    let h = summand_sound true rest x p in inr (h.0, rest, found_begins minus_by s.Minus rest ts rest (λ t us q. grind arith) e, h.1)

first_sound : (ts : List Placed) (x : Summand × List Placed) → first_at ts ≡ Ok x → IsFirst x.0 ts x.1
first_sound ts x p = minus_or_sound ts (found minus_by ts) x refl p

-- chains: what is good stays good with one more
module _ {M : Type 0} (further : M → List Placed → Option (Read M)) (Good : M → List Placed → Type 0)
    (goes : (m : M) (ts : List Placed) (x : M × List Placed) → Good m ts → further m ts ≡ Some (Ok x) → Good x.0 x.1) where
  go_on_sound : (m : M) (ts : List Placed) (o : Option (Read M)) (next : M → List Placed → Read M) (x : M × List Placed) → Good m ts → further m ts ≡ o → ((m : M) (ts : List Placed) (x : M × List Placed) → Good m ts → next m ts ≡ Ok x → Good x.0 x.1)
      → go_on m ts o next ≡ Ok x → Good x.0 x.1
  go_on_sound m ts None next x g e ih p = subst (λ y. Good y.0 y.1) (ok_inj _ x p) g
  go_on_sound m ts (Some (Err left)) next x g e ih p = cc
  go_on_sound m ts (Some (Ok y)) next x g e ih p = ih y.0 y.1 x (goes m ts y g e) p

  chain_at_sound : (n : ℕ) (m : M) (ts : List Placed) (x : M × List Placed) → Good m ts → chain_at further n m ts ≡ Ok x → Good x.0 x.1
  chain_at_sound zero m ts x g p = cc
  chain_at_sound (suc n) m ts x g p = go_on_sound m ts (further m ts) (chain_at further n) x g refl (chain_at_sound n) p

  chain_sound : (m : M) (ts : List Placed) (x : M × List Placed) → Good m ts → chain further m ts ≡ Ok x → Good x.0 x.1
  unfolding chain
  chain_sound m ts x g p = chain_at_sound (suc (length ts)) m ts x g p

-- sums
with_some : {A B : Type 0} (o : Option A) (f : A → B) (y : B) → with_found o f ≡ Some y → (x : A) × (o ≡ Some x) × f x ≡ y
with_some o f y p = grind arith

further_one_more : (xs : List Summand) (x : Summand) (ts us ws rest : List Placed) → AreFurther xs ts us → Begins (plus_or_minus x.negative) us ws → IsSummand x ws rest → AreFurther (xs ++ x ∷ []) ts rest
further_one_more [] x ts us ws rest h b k = (ws, rest, subst (λ zs. Begins (plus_or_minus x.negative) zs ws) (sym h) b, k, refl)
further_one_more (y ∷ ys) x ts us ws rest (a, c, d, e, h) b k = (a, c, d, e, further_one_more ys x c us ws rest h b k)

sum_one_more : (xs : List Summand) (x : Summand) (ts us ws rest : List Placed) → IsSum xs ts us → Begins (plus_or_minus x.negative) us ws → IsSummand x ws rest → IsSum (xs ++ x ∷ []) ts rest
sum_one_more [] x ts us ws rest h b k = absurd h
sum_one_more (y ∷ ys) x ts us ws rest (a, f, h) b k = (a, f, further_one_more ys x a us ws rest h b k)

sum_goes : (start : List Placed) (xs : List Summand) (ts : List Placed) (x : List Summand × List Placed) → IsSum xs start ts → sum_further xs ts ≡ Some (Ok x) → IsSum x.0 start x.1
sum_goes start xs ts x h p =
    let (l, e, q) = with_some (found link_by ts) (λ p. summand_at p.0 p.1 >>= λ x. Ok (xs ++ x.0 ∷ [], x.1)) (Ok x) p in
    let (y, k, r) = bind_last (summand_at l.0 l.1) (λ y. (xs ++ y.0 ∷ [], y.1)) x q in
    let g = summand_sound l.0 l.1 y k in
    subst (λ z. IsSum z.0 start z.1) r (sum_one_more xs y.0 start ts l.1 y.1 h (subst (λ n. Begins (plus_or_minus n) ts l.1) (sym g.0) (found_begins link_by (plus_or_minus l.0) l ts l.1 (λ t us q. grind arith) e)) g.1)

sum_sound : (ts : List Placed) (x : List Summand × List Placed) → sum_at ts ≡ Ok x → IsSum x.0 ts x.1
sum_sound ts x p =
    let (y, h, q) = bind_some (first_at ts) (λ y. chain sum_further (y.0 ∷ []) y.1) x p in
    chain_sound sum_further (λ xs us. IsSum xs ts us) (sum_goes ts) (y.0 ∷ []) y.1 x (y.1, first_sound ts y h, refl) q

comparison_sound : (ts : List Placed) (x : Tree × List Placed) → comparison_at ts ≡ Ok x → IsComparison x.0 ts x.1
comparison_sound ts x p =
    let (a, h, p') = bind_some (sum_at ts) (λ a. relation_at a.1 >>= λ r. sum_at r.1 >>= λ b. Ok (compare a.0 r.0 b.0, b.1)) x p in
    let (r, b, p'') = bind_some (relation_at a.1) (λ r. sum_at r.1 >>= λ b. Ok (compare a.0 r.0 b.0, b.1)) x p' in
    let (d, k, q) = bind_last (sum_at r.1) (λ b. (compare a.0 r.0 b.0, b.1)) x p'' in
    subst (λ w. IsComparison w.0 ts w.1) {x = (compare a.0 r.0 d.0, d.1)} q (a.1, r.1, sum_sound ts a h, due_begins relation_by (s.Relation r.0) r a.1 r.1 (λ t us q. grind arith) b, sum_sound r.1 d k)

-- conditions with signs between them
module _ (Part : Phrase) (part : List Placed → Read Tree) (sound : (ts : List Placed) (x : Tree × List Placed) → part ts ≡ Ok x → Part x.0 ts x.1) where
  both_of_part : (c : Tree) (ts rest : List Placed) → Part c ts rest → IsBothOf Part c ts rest
  both_of_part (both c d) ts rest h = inl h
  both_of_part _ ts rest h = h

  either_of_both : (c : Tree) (ts rest : List Placed) → IsBothOf Part c ts rest → IsEitherOf Part c ts rest
  either_of_both (either c d) ts rest h = inl h
  either_of_both _ ts rest h = h

  and_goes : (start : List Placed) (c : Tree) (ts : List Placed) (x : Tree × List Placed) → IsBothOf Part c start ts → and_further part c ts ≡ Some (Ok x) → IsBothOf Part x.0 start x.1
  and_goes start c ts x h p =
      let (l, e, q) = with_some (found and_by ts) (λ rest. part rest >>= λ d. Ok (both c d.0, d.1)) (Ok x) p in
      let (d, k, r) = bind_last (part l) (λ d. (both c d.0, d.1)) x q in
      subst (λ z. IsBothOf Part z.0 start z.1) r (inr (ts, l, h, found_begins and_by s.And l ts l (λ t us q. grind arith) e, sound l d k))

  both_sound : (ts : List Placed) (x : Tree × List Placed) → both_of part ts ≡ Ok x → IsBothOf Part x.0 ts x.1
  both_sound ts x p =
      let (c, h, q) = bind_some (part ts) (λ c. chain (and_further part) c.0 c.1) x p in
      chain_sound (and_further part) (λ c us. IsBothOf Part c ts us) (and_goes ts) c.0 c.1 x (both_of_part c.0 ts c.1 (sound ts c h)) q

  or_goes : (start : List Placed) (c : Tree) (ts : List Placed) (x : Tree × List Placed) → IsEitherOf Part c start ts → or_further part c ts ≡ Some (Ok x) → IsEitherOf Part x.0 start x.1
  or_goes start c ts x h p =
      let (l, e, q) = with_some (found or_by ts) (λ rest. both_of part rest >>= λ d. Ok (either c d.0, d.1)) (Ok x) p in
      let (d, k, r) = bind_last (both_of part l) (λ d. (either c d.0, d.1)) x q in
      subst (λ z. IsEitherOf Part z.0 start z.1) r (inr (ts, l, h, found_begins or_by s.Or l ts l (λ t us q. grind arith) e, both_sound l d k))

  either_sound : (ts : List Placed) (x : Tree × List Placed) → either_of part ts ≡ Ok x → IsEitherOf Part x.0 ts x.1
  either_sound ts x p =
      let (c, h, q) = bind_some (both_of part ts) (λ c. chain (or_further part) c.0 c.1) x p in
      chain_sound (or_further part) (λ c us. IsEitherOf Part c ts us) (or_goes ts) c.0 c.1 x (either_of_both c.0 ts c.1 (both_sound ts c h)) q

  -- what stands in brackets or behind a negation
  abbrev IsInner : Tree → List Placed → List Placed → Type 0
  IsInner c ts rest = IsNegation Part c ts rest ⊎ IsNested Part c ts rest

  inner_by_sound : (t : Sign) (us : List Placed) (read : Read Tree) (x : Tree × List Placed) (first : Placed) (ts : List Placed) → inner_by part t us ≡ Some read → read ≡ Ok x → first.sign ≡ t → ts ≡ first ∷ us → IsInner x.0 ts x.1
  inner_by_sound s.Not us read x first ts p o q e =
      let (c, h, k) = bind_last (part us) (λ c. (negation c.0, c.1)) x (some_inj _ _ p ∙ o) in
      subst (λ z. IsInner z.0 ts z.1) k (inl (us, (first, q, e), sound us c h))
  inner_by_sound s.Open us read x first ts p o q e =
      let (c, h, p') = bind_some (either_of part us) (λ c. closed_at c.1 >>= λ rest. Ok (c.0, rest)) x (some_inj _ _ p ∙ o) in
      let (rest, b, k) = bind_last (closed_at c.1) (λ rest. (c.0, rest)) x p' in
      subst (λ z. IsInner z.0 ts z.1) k (inr (us, c.1, (first, q, e), either_sound us c h, due_begins closed_by s.Close rest c.1 rest (λ t us q. grind arith) b))
  inner_by_sound _ us read x first ts p o q e = cc

  inner_sound : (ts : List Placed) (o : Option (Read Tree)) (x : Tree × List Placed) → found (inner_by part) ts ≡ o → or_comparison ts o ≡ Ok x → IsComparison x.0 ts x.1 ⊎ IsInner x.0 ts x.1
  inner_sound ts None x e p = inl (comparison_sound ts x p)
  inner_sound ts (Some read) x e p =
      let (y, us, k, q) = found_some (inner_by part) ts read e in inr (inner_by_sound y.sign us read x y ts q p refl k)

part_sound : (nested : ℕ) (ts : List Placed) (x : Tree × List Placed) → part_in nested ts ≡ Ok x → IsPart nested x.0 ts x.1
part_sound zero ts x p = comparison_sound ts x p
part_sound (suc n) ts x p = inner_sound (IsPart n) (part_in n) (part_sound n) ts (found (inner_by (part_in n)) ts) x refl p

end_sound : {A : Type 0} (c d : A) (ts : List Placed) → at_end c ts ≡ Ok d → (c ≡ d) × (ts ≡ [])
end_sound c d [] p = (ok_inj c d p, refl)
end_sound c d (t ∷ ts) p = cc

-- what is read is a condition
pub condition_sound : (c : Tree) (ts : List Placed) → tree_of ts ≡ Ok c → IsCondition c ts
condition_sound c ts p =
    let (x, h, q) = bind_some (either_in 16 ts) (λ c. at_end c.0 c.1) c p in
    let e = end_sound x.0 c x.1 q in
    subst (λ d. IsEitherOf (IsPart 16) d ts []) e.0 (subst (λ us. IsEitherOf (IsPart 16) x.0 ts us) e.1 (either_sound (IsPart 16) (part_in 16) (part_sound 16) ts x h))

-- and a sum that is read alone is a sum
pub whole_sum_sound : (xs : List Summand) (ts : List Placed) → whole_sum ts ≡ Ok xs → IsWholeSum xs ts
whole_sum_sound xs ts p =
    let (x, h, q) = bind_some (sum_at ts) (λ y. at_end y.0 y.1) xs p in
    let e = end_sound x.0 xs x.1 q in
    subst (λ ys. IsSum ys ts []) e.0 (subst (λ us. IsSum x.0 ts us) e.1 (sum_sound ts x h))
