-- A search notes no more configurations than there are words: each is where a legal order leads that begins with the
-- front, and what an order leads to is told by the word of its clients alone, which is one of the list of words.
use Rattle.std.proofs.Common.{◌≡◌, ◌≤◌, ℕ, List, [], ◌∷◌, ◌++◌, length, map, refl, sym, ap, ◌∙◌, subst, arith}
use Rattle.qs_outcomes.proofs.Common.{AllByRecursion, at_most, Becomes, becomes_same, Configuration, configuration-append, configuration_after, configuration_from, configuration_in, each_map, first_configuration, HasOne, IsLegal, IsStanding, length-map, NoTwo, one_block_on, ProgramShape, StandingShape, Ticket}
use Rattle.qs_outcomes.specs.Reached.{IsFollowedTo}
use Rattle.qs_outcomes.proofs.Listed.{two_map}
use Rattle.qs_outcomes.specs.estimate.Estimates.{left, most_orders}
use Rattle.qs_outcomes.specs.estimate.Laws.{MostSuffices, MostSufficesForAnswers}
use Rattle.qs_outcomes.proofs.estimate.BlocksLeft.{word, word_few}
use Rattle.qs_outcomes.proofs.Mapped.{has_mapped}
use Rattle.qs_outcomes.proofs.estimate.Words.{word_in, words, words_few}

-- where the next blocks of these clients lead
abbrev walked : ProgramShape → Configuration → List ℕ → Configuration
walked p g [] = g
walked p g (c ∷ cs) = walked p (one_block_on p c g) cs

walked_is : (p : ProgramShape) (g : Configuration) (ts : List Ticket) → configuration_from p g ts ≡ walked p g (word ts)
walked_is p g [] = refl
walked_is p g (t ∷ ts) = walked_is p (one_block_on p t.client g) ts

-- a standing holds where an order leads that begins with a front
record IsReachedAfter (p : ProgramShape) (front : List Ticket) (s : StandingShape) : Type 0 where
  rest : List Ticket
  whole : s.order ≡ front ++ rest
  legal : IsLegal p s.order
  there : configuration_in s ≡ configuration_after p s.order

module _ (p : ProgramShape) (front : List Ticket) where
  -- where each word leads
  places : List Configuration
  places = map (walked p (configuration_after p front)) (words (left p front))

  in_places : (s : StandingShape) → IsReachedAfter p front s → HasOne (λ g. configuration_in s ≡ g) places
  unfolding places
  in_places s is =
      let g = configuration_after p front in
      let there : configuration_in s ≡ walked p g (word is.rest) =
      is.there ∙ ap (configuration_after p) is.whole ∙ configuration-append p (first_configuration p) front is.rest ∙ walked_is p g is.rest in
      has_mapped {P = λ w. word is.rest ≡ w} (λ h. configuration_in s ≡ h) (walked p g) (λ w e. there ∙ ap (walked p g) e) (words (left p front))
      (word_in (left p front) (word is.rest) (word_few p front is.rest (subst (IsLegal p) is.whole is.legal)))

  few_places : length places ≤ most_orders (left p front)
  unfolding places
  few_places =
      let mapped = length-map (words (left p front)) (walked p (configuration_after p front)) in
      let few = words_few (left p front) in omega (arith, mapped, few)

  no_more : (ss : List StandingShape) (many : ℕ) → length ss ≡ many → NoTwo (λ s t. configuration_in s ≡ configuration_in t) ss → AllByRecursion (IsReachedAfter p front) ss → many ≤ most_orders (left p front)
  no_more ss many count apart each =
      let within : length ss ≤ length places =
      at_most (λ (s : StandingShape) (g : Configuration). configuration_in s ≡ g) (λ s t. configuration_in s ≡ configuration_in t) (λ s t g e f. e ∙ sym f) ss places apart (each_map in_places ss each) in
      let few = few_places in omega (arith, within, few, count)

pub most_suffices : MostSuffices
most_suffices p front many ss noted =
    no_more p front ss many noted.count noted.different
    (each_map (λ s (is : IsStanding p front s). record { rest = is.reduced.rest; whole = is.reduced.whole; legal = is.legal; there = is.stands }) ss noted.reached)

pub most_suffices_for_answers : MostSufficesForAnswers
most_suffices_for_answers p k o front many (ss, noted) =
    no_more p front ss many noted.count
    (two_map (λ s t. Becomes k (configuration_in s) (configuration_in t)) (λ s t. configuration_in s ≡ configuration_in t)
    (λ s t (a : IsFollowedTo p k o front s) (b : IsFollowedTo p k o front t) e. becomes_same k (configuration_in s) (configuration_in t) (sym e))
    ss noted.reached noted.unlike)
    (each_map (λ s (is : IsFollowedTo p k o front s).
    record { rest = is.followed.rest; whole = is.followed.whole; legal = is.standing.legal; there = is.standing.stands }) ss noted.reached)
