-- A program has just one text of its outcomes after a front, however they are found. The law on texts of outcomes,
-- `OutcomesTextsAreUnique`, is proved here. Of two orders that are both the least neither is before the other, so they
-- have the same clients, and are one as both are legal and complete. Lists that are sorted by their orders and have the
-- same elements agree place by place. And of two lists of all configurations each has an equal in the other for each of
-- its own, which are different: so they are equally long.
use Rattle.std.proofs.Common.{◌≡◌, ◌<◌, ◌≤◌, ◌+◌, ℕ, suc, List, [], ◌∷◌, ◌++◌, codes, length, get_or, refl, sym, ap, ◌∙◌, subst, arith, ◌⊎◌, inl, inr, ⊎_elim, append-nil}
use Rattle.std.specs.List.{AllByRecursion, AllZip}
use Rattle.std.proofs.lemmas.List.Elements.{AllZip-get_or, length_all_zip}
use Rattle.qs_objects.specs.declared.held.Ticket.{Ticket}
use Rattle.qs_program.specs.audit.Program.{ProgramShape, blocks_of, client_at, object_at}
use Rattle.qs_serial.specs.audit.NamedOrders.{order_of}
use Rattle.qs_meaning.specs.audit.Configurations.{Configuration, IsComplete, configuration_after, configuration_from, first_configuration, one_block_on}
use Rattle.qs_meaning.specs.Configurations.{outcome_of}
use Rattle.qs_meaning.specs.audit.Serial.{IsLegal, LegalFrom}
use Rattle.qs_meaning.proofs.Each.{each_both, each_map}
use Rattle.qs_meaning.proofs.Orders.{complete_orders_leave_none, legal_on}
use Rattle.qs_outcomes.specs.LeastOrders.{AreSorted, IsBefore}
use Rattle.qs_standings.specs.Lists.{HasOne, NoTwo}
use Rattle.qs_outcomes.specs.Outcomes.{OutcomesShape, AreAllOutcomesAfter, HasConfigurationsAfter, IsLeastAfter, IsListedAfter, outcome_at, AreOutcomesAfter}
use Rattle.qs_standings.specs.Standings.{IsStanding, StandingShape, configuration_in}
use Rattle.qs_outcomes.proofs.Before.{before_both, not_before}
use Rattle.qs_standings.proofs.Lists.{has_map, has_of, has_some}
use Rattle.qs_standings.proofs.Stands.{below_or_past}
use Rattle.qs_report.specs.OutcomesText.{IsOutcomesText, OutcomesTextsAreUnique, listed_text, no_standing, outcome_line, outcome_text, outcome_text_at}
use Rattle.qs_text.specs.Variables.{variables_text}
use Rattle.qs_report.specs.audit.Report.{state_line}
use Rattle.qs_text.specs.audit.Texts.{count_line, texts_up_to}
use Rattle.qs_text.proofs.SameTexts.{same_texts}

same_client : (c d : ℕ) → (c < d → ⊥) → (d < c → ⊥) → c ≡ d
same_client c d h k =
    ⊎_elim
    (λ (less : c < d). absurd (h less))
    (λ (past : d ≤ c). ⊎_elim (λ (more : d < c). absurd (k more)) (λ (other : c ≤ d). omega (arith, past, other)) (below_or_past d c))
    (below_or_past c d)

-- complete orders of which neither is before the other
one_order : (p : ProgramShape) (g : Configuration) (ts us : List Ticket) → LegalFrom p g.begun ts → LegalFrom p g.begun us
    → ((c : ℕ) → (configuration_from p g ts).begun c ≡ blocks_of p c) → ((c : ℕ) → (configuration_from p g us).begun c ≡ blocks_of p c)
    → (IsBefore ts us → ⊥) → (IsBefore us ts → ⊥) → ts ≡ us
one_order p g [] [] l m over end h k = refl
one_order p g [] (u ∷ us) l m over end h k =
    absurd (let none : g.begun u.client ≡ blocks_of p u.client = over u.client in let is : u.index ≡ g.begun u.client = m.0 in let less : u.index < blocks_of p u.client = m.1 in omega (arith, none, is, less))
one_order p g (t ∷ ts) [] l m over end h k =
    absurd (let none : g.begun t.client ≡ blocks_of p t.client = end t.client in let is : t.index ≡ g.begun t.client = l.0 in let less : t.index < blocks_of p t.client = l.1 in omega (arith, none, is, less))
one_order p g (t ∷ ts) (u ∷ us) l m over end h k =
    let same : t.client ≡ u.client = same_client t.client u.client (λ less. h (inl less)) (λ less. k (inl less)) in
    let ticket : ◌≡◌ {A = Ticket} t u = λ i. record { client = same i; index = (l.0 ∙ (ap g.begun same ∙ sym m.0)) i } in
    let rest : ts ≡ us =
    one_order p (one_block_on p t.client g) ts us (legal_on p g t ts l) (subst (λ c. LegalFrom p (one_block_on p c g).begun us) (sym same) (legal_on p g u us m)) over
    (subst (λ c. (d : ℕ) → (configuration_from p (one_block_on p c g) us).begun d ≡ blocks_of p d) (sym same) end) (λ b. h (inr (same, b))) (λ b. k (inr (sym same, b))) in
    λ i. ticket i ∷ rest i

-- the same order and outcome
abbrev pub IsSame : StandingShape → StandingShape → Type 0
IsSame s t = (s.order ≡ t.order) × (outcome_at s ≡ outcome_at t)

not_itself : (ts : List Ticket) → IsBefore ts ts → ⊥
not_itself ts h = not_before ts [] (subst (λ us. IsBefore us ts) (sym (append-nil ts)) h)

first_same : (x y : StandingShape) (xs ys : List StandingShape) → AllByRecursion (λ z. IsBefore x.order z.order) xs → AllByRecursion (λ z. IsBefore y.order z.order) ys
    → IsSame x y ⊎ HasOne (IsSame x) ys → IsSame x y ⊎ HasOne (λ z. IsSame z y) xs → IsSame x y
first_same x y xs ys a b (inl s) k = s
first_same x y xs ys a b (inr h) (inl s) = s
first_same x y xs ys a b (inr h) (inr k) =
    absurd (not_itself x.order (before_both x.order y.order x.order
    (has_some (λ z (s : IsSame z y) (before : IsBefore x.order z.order). subst (IsBefore x.order) s.0 before) xs k a)
    (has_some (λ z (s : IsSame x z) (before : IsBefore y.order z.order). subst (IsBefore y.order) (sym s.0) before) ys h b)))

-- sorted lists, each of whose elements is in the other
zip_sorted : (xs ys : List StandingShape) → AreSorted xs → AreSorted ys → AllByRecursion (λ x. HasOne (IsSame x) ys) xs → AllByRecursion (λ y. HasOne (λ x. IsSame x y) xs) ys
    → AllZip IsSame xs ys
zip_sorted [] [] a b f g = tt
zip_sorted [] (y ∷ ys) a b f g = g.0
zip_sorted (x ∷ xs) [] a b f g = f.0
zip_sorted (x ∷ xs) (y ∷ ys) a b f g = (
  same,
  zip_sorted xs ys a.1 b.1 (each_both (λ z (before : IsBefore x.order z.order) h. left z before h) xs a.0 f.1)
      (each_both (λ z (before : IsBefore y.order z.order) h. right z before h) ys b.0 g.1),
)
  where
    same : IsSame x y
    same = first_same x y xs ys a.0 b.0 f.0 g.0

    left : (z : StandingShape) → IsBefore x.order z.order → IsSame z y ⊎ HasOne (IsSame z) ys → HasOne (IsSame z) ys
    left z before (inl s) = absurd (not_itself x.order (subst (IsBefore x.order) (s.0 ∙ sym same.0) before))
    left z before (inr h) = h

    right : (z : StandingShape) → IsBefore y.order z.order → IsSame x z ⊎ HasOne (λ w. IsSame w z) xs → HasOne (λ w. IsSame w z) xs
    right z before (inl s) = absurd (not_itself y.order (subst (IsBefore y.order) (sym s.0 ∙ same.0) before))
    right z before (inr h) = h

module _ (p : ProgramShape) (front : List Ticket) where
  abbrev IsLeastListed : StandingShape → Type 0
  IsLeastListed s = IsListedAfter p front s × IsLeastAfter p front s

  one_standing : (s t : StandingShape) → IsLeastListed s → IsLeastListed t → outcome_at s ≡ outcome_at t → IsSame s t
  one_standing s t (a, least) (b, other) e = (
    one_order p (first_configuration p) s.order t.order a.complete.legal b.complete.legal ((complete_orders_leave_none p s.order a.complete.legal).0 a.complete)
        ((complete_orders_leave_none p t.order b.complete.legal).0 b.complete) (λ before. other s.order a.complete a.reduced (sym a.outcome ∙ e) before)
        (λ before. least t.order b.complete b.reduced (sym b.outcome ∙ sym e) before),
    e,
  )

  found_there : (s : StandingShape) → IsLeastListed s → (found : List StandingShape) → AllByRecursion IsLeastListed found → AreAllOutcomesAfter p front found → HasOne (IsSame s) found
  found_there s (a, least) found each all =
      let whole = a.reduced.whole in
      has_of (λ t (e : outcome_at t ≡ outcome_of p (front ++ a.reduced.rest)) (b : IsLeastListed t). one_standing s t (a, least) b (a.outcome ∙ ap (outcome_of p) whole ∙ sym e))
      found (all a.reduced.rest (subst (IsComplete p) whole a.complete)) each

  turned : (t : StandingShape) (found : List StandingShape) → HasOne (IsSame t) found → HasOne (λ s. IsSame s t) found
  turned t found h = has_map (λ s (e : IsSame t s). (sym e.0, sym e.1)) found h

  one_list : (xs ys : List StandingShape) → AllByRecursion IsLeastListed xs → AllByRecursion IsLeastListed ys → AreAllOutcomesAfter p front xs → AreAllOutcomesAfter p front ys
      → AreSorted xs → AreSorted ys → AllZip IsSame xs ys
  one_list xs ys a b all every one other =
      zip_sorted xs ys one other (each_map (λ s l. found_there s l ys b every) xs a) (each_map (λ t l. turned t xs (found_there t l xs a all)) ys b)

  -- a list without one of its elements
  without : (P : StandingShape → Type 0) (ys : List StandingShape) → HasOne P ys → List StandingShape
  without P [] h = absurd h
  without P (y ∷ ys) (inl h) = ys
  without P (y ∷ ys) (inr h) = y ∷ without P ys h

  without_long : (P : StandingShape → Type 0) (ys : List StandingShape) (h : HasOne P ys) → suc (length (without P ys h)) ≡ length ys
  unfolding without
  without_long P [] h = absurd h
  without_long P (y ∷ ys) (inl h) = refl
  without_long P (y ∷ ys) (inr h) = ap suc (without_long P ys h)

  without_other : (P Q : StandingShape → Type 0) (ys : List StandingShape) (h : HasOne P ys) → HasOne Q ys → ((y : StandingShape) → P y → Q y → ⊥) → HasOne Q (without P ys h)
  unfolding without
  without_other P Q [] h q differs = absurd h
  without_other P Q (y ∷ ys) (inl h) (inl q) differs = absurd (differs y h q)
  without_other P Q (y ∷ ys) (inl h) (inr q) differs = q
  without_other P Q (y ∷ ys) (inr h) (inl q) differs = inl q
  without_other P Q (y ∷ ys) (inr h) (inr q) differs = inr (without_other P Q ys h q differs)

  abbrev IsThere : StandingShape → StandingShape → Type 0
  IsThere x y = configuration_in y ≡ configuration_in x

  fewer : (xs ys : List StandingShape) → NoTwo (λ s t. configuration_in s ≡ configuration_in t) xs → AllByRecursion (λ x. HasOne (IsThere x) ys) xs → length xs ≤ length ys
  fewer [] ys apart each = omega arith
  fewer (x ∷ xs) ys apart each =
      let rest = fewer xs (without (IsThere x) ys each.0) apart.1
      (each_both (λ z (other : configuration_in x ≡ configuration_in z → ⊥) (h : HasOne (IsThere z) ys). without_other (IsThere x) (IsThere z) ys each.0 h (λ y e f. other (sym e ∙ f))) xs apart.0 each.1) in
      let long = without_long (IsThere x) ys each.0 in
      omega (arith, rest, long)

  no_more : (n m : ℕ) → HasConfigurationsAfter p front n → HasConfigurationsAfter p front m → n ≤ m
  no_more n m (xs, a, all) (ys, b, every) =
      let less = fewer xs ys a.different
      (each_map (λ s (is : IsStanding p front s).
      let whole = is.reduced.whole in
      has_map (λ t (e : configuration_in t ≡ configuration_after p (front ++ is.reduced.rest)). e ∙ sym (is.stands ∙ ap (configuration_after p) whole)) ys
      (every is.reduced.rest (subst (IsLegal p) whole is.legal) is.reduced.reduced)) xs a.reached) in
      let one = a.count in let other = b.count in
      omega (arith, less, one, other)

-- two lists of all outcomes are the same, and so are their counts
pub same_lists : (p : ProgramShape) (front : List Ticket) (all every : OutcomesShape) → AreOutcomesAfter p front all → AreOutcomesAfter p front every
    → AllZip IsSame all.found every.found × (all.configurations ≡ every.configurations)
same_lists p front all every are too =
    let less = no_more p front all.configurations every.configurations are.counted too.counted in
    let more = no_more p front every.configurations all.configurations too.counted are.counted in (
      one_list p front all.found every.found (each_both (λ s a l. (a, l)) all.found are.sound are.least) (each_both (λ s a l. (a, l)) every.found too.sound too.least)
          are.complete too.complete are.sorted too.sorted,
      omega (arith, less, more),
    )

same_outcome_text : (p : ProgramShape) (n : ℕ) (s t : StandingShape) → IsSame s t → outcome_text p n s ≡ outcome_text p n t
same_outcome_text p n s t (order, e) = λ i.
    outcome_line n (order i) ++ texts_up_to (length p.objects) (λ h. state_line (object_at p h).name ((e i).states h))
    ++ texts_up_to (length p.clients) (λ c. (client_at p c).name ++ variables_text (client_at p c).variables ((e i).locals c) ++ codes "\n")

pub one_outcomes_text : OutcomesTextsAreUnique
unfolding IsOutcomesText
one_outcomes_text p limit bound front text other (all, are, within, is) (every, too, below, one) =
    let (zip, counts) = same_lists p (order_of front) all every are too in
    let long : length all.found ≡ length every.found = length_all_zip IsSame all.found every.found zip in
    let found : texts_up_to (length all.found) (outcome_text_at p all.found) ≡ texts_up_to (length every.found) (outcome_text_at p every.found) =
    same_texts (outcome_text_at p all.found) (outcome_text_at p every.found) (length all.found)
    (λ k less. same_outcome_text p (k + 1) (get_or all.found k no_standing) (get_or every.found k no_standing) (AllZip-get_or IsSame all.found every.found k no_standing no_standing zip less))
    ∙ ap (λ n. texts_up_to n (outcome_text_at p every.found)) long in
    let texts : listed_text p all ≡ listed_text p every = λ i. count_line (codes "outcomes") (long i) ++ found i ++ count_line (codes "configurations") (counts i) in
    is ∙ texts ∙ sym one
