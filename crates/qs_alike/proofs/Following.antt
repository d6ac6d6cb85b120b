-- Who is followed is so by its new number after a change: with the places of each class in order both are the same. So
-- the change of an order that is followed is followed, by induction on it. Where all are alone, those are followed who go
-- on themselves.
use Rattle.std.proofs.Common.{◌≡◌, ◌<◌, ◌≤◌, ◌+◌, ◌++◌, ℕ, true, List, [], ◌∷◌, length, sym, ap, ◌∙◌, subst, arith, inl, inr, append_assoc}
use Rattle.qs_alike.proofs.Common.{append_cancel_left, blocks_of, cases_lt, Configuration, configuration-append, configuration_after, configuration_from, configuration_in, first_configuration, has_place, in_byte, IsReducedAfter, legal_on, LegalFrom, one_block_on, ProgramShape, StandingShape, Ticket}
use Rattle.qs_meaning.specs.Reduced.{IsReducedFrom, goes_on}
use Rattle.qs_meaning.proofs.Groups.{some_go_on}
use Rattle.qs_alike.specs.Changes.{AreAlone, AreClasses, Change, Classes, IsChange, changed, changed_order}
use Rattle.qs_alike.specs.Followed.{Follows, GoesOnUpTo, IsFollowedAfter, IsFollowedFrom, Orders, all_legal, only_reduced}
use Rattle.qs_alike.specs.Keys.{IsPlacedAs}
use Rattle.qs_alike.proofs.Composing.{arranged_alone, becomes_across, becomes_alone, becomes_itself, one_arranged}
use Rattle.qs_alike.proofs.Orders.{as_many, one_changed}

module _ (p : ProgramShape) (k : Classes) (are : AreClasses p k) (x : Change) (is : IsChange k x) where
  pub follows_changed : (o : Orders) (g : Configuration) (c : ℕ) → Follows p k o g c → Follows p k o (changed x g) (x.new c)
  follows_changed only_reduced g c goes = record {
    arranged = goes.arranged;
    becomes = becomes_across k g (changed x g) goes.arranged (x, is, λ i. changed x g) goes.becomes;
    in_order = goes.in_order;
    place = goes.place;
    alike = goes.alike ∙ sym (is.alike c);
    begun = goes.begun ∙ ap g.begun (sym (is.there c));
    goes = goes.goes;
  }
  follows_changed all_legal g c left =
      subst (λ n. g.begun n < blocks_of p (x.new c)) (sym (is.there c))
      (subst (λ n. g.begun c < n) (ap (blocks_of p) (sym (is.there c)) ∙ as_many p k are x is (x.new c)) left)

  pub followed_changed : (o : Orders) (g : Configuration) (ts : List Ticket) → IsFollowedFrom p k o g ts
      → IsFollowedFrom p k o (changed x g) (changed_order x ts)
  followed_changed o g [] followed = tt
  followed_changed o g (t ∷ ts) followed = (
    follows_changed o g t.client followed.0,
    subst (λ h. IsFollowedFrom p k o h (changed_order x ts)) (sym (one_changed p k are x is g t.client))
        (followed_changed o (one_block_on p t.client g) ts followed.1),
  )

-- who is followed has a block left
pub follows_left : (p : ProgramShape) (k : Classes) → AreClasses p k → (o : Orders) (g : Configuration) (c : ℕ) → Follows p k o g c → g.begun c < blocks_of p c
follows_left p k are only_reduced g c goes =
    subst (λ n. n < blocks_of p c) goes.begun
    (subst (λ bs. goes.arranged.begun goes.place < length bs) (are.blocks goes.place c goes.alike)
    ((some_go_on p goes.arranged.begun).undisturbed.left goes.place goes.goes))
follows_left p k are all_legal g c left = left

-- every legal order is one of all
pub legal_followed : (p : ProgramShape) (k : Classes) (g : Configuration) (ts : List Ticket) → LegalFrom p g.begun ts → IsFollowedFrom p k all_legal g ts
legal_followed p k g [] legal = tt
legal_followed p k g (t ∷ ts) legal = (
  subst (λ n. n < blocks_of p t.client) legal.0 legal.1,
  legal_followed p k (one_block_on p t.client g) ts (legal_on p g t ts legal),
)

-- ---- where all are alone

module _ (p : ProgramShape) (k : Classes) (alone : AreAlone k) where
  pub goes_alone : (g : Configuration) (c : ℕ) → goes_on p g.begun c ≡ true → GoesOnUpTo p k g c
  goes_alone g c goes = record {
    arranged = g;
    becomes = becomes_itself k g;
    in_order = arranged_alone k alone g;
    place = c;
    alike = λ i. k c;
    begun = λ i. g.begun c;
    goes = goes;
  }

  pub alone_goes : (g : Configuration) (c : ℕ) → GoesOnUpTo p k g c → goes_on p g.begun c ≡ true
  alone_goes g c goes =
      subst (λ d. goes_on p g.begun d ≡ true) (alone goes.place c goes.alike)
      (subst (λ (h : Configuration). goes_on p h.begun goes.place ≡ true) (becomes_alone k alone g goes.arranged goes.becomes) goes.goes)

  pub reduced_followed : (g : Configuration) (ts : List Ticket) → IsReducedFrom p g ts → IsFollowedFrom p k only_reduced g ts
  reduced_followed g [] h = tt
  reduced_followed g (t ∷ ts) h = (goes_alone g t.client h.0, reduced_followed (one_block_on p t.client g) ts h.1)

  pub followed_reduced : (g : Configuration) (ts : List Ticket) → IsFollowedFrom p k only_reduced g ts → IsReducedFrom p g ts
  followed_reduced g [] h = tt
  followed_reduced g (t ∷ ts) h = (alone_goes g t.client h.0, followed_reduced (one_block_on p t.client g) ts h.1)

  pub reduced_followed_after : (front order : List Ticket) → IsReducedAfter p front order → IsFollowedAfter p k only_reduced front order
  reduced_followed_after front order r = record {
    rest = r.rest;
    whole = r.whole;
    followed = reduced_followed (configuration_after p front) r.rest r.reduced;
  }

  pub followed_reduced_after : (front order : List Ticket) → IsFollowedAfter p k only_reduced front order → IsReducedAfter p front order
  followed_reduced_after front order r = record {
    rest = r.rest;
    whole = r.whole;
    reduced = followed_reduced (configuration_after p front) r.rest r.followed;
  }

-- ---- orders in two parts

module _ (p : ProgramShape) (k : Classes) (o : Orders) where
  followed_join : (g : Configuration) (ts us : List Ticket) → IsFollowedFrom p k o g ts → IsFollowedFrom p k o (configuration_from p g ts) us
      → IsFollowedFrom p k o g (ts ++ us)
  followed_join g [] us h l = l
  followed_join g (t ∷ ts) us h l = (h.0, followed_join (one_block_on p t.client g) ts us h.1 l)

  followed_rest : (g : Configuration) (ts us : List Ticket) → IsFollowedFrom p k o g (ts ++ us) → IsFollowedFrom p k o (configuration_from p g ts) us
  followed_rest g [] us h = h
  followed_rest g (t ∷ ts) us h = followed_rest (one_block_on p t.client g) ts us h.1

  -- where an order leads, by its part after the front
  after_front : (front order : List Ticket) (r : IsFollowedAfter p k o front order)
      → configuration_after p order ≡ configuration_from p (configuration_after p front) r.rest
  after_front front order r = ap (configuration_after p) r.whole ∙ configuration-append p (first_configuration p) front r.rest

  pub followed_onward : (front order rest : List Ticket) → IsFollowedAfter p k o front order → IsFollowedFrom p k o (configuration_after p order) rest
      → IsFollowedAfter p k o front (order ++ rest)
  followed_onward front order rest r h = record {
    rest = r.rest ++ rest;
    whole = ap (λ ts. ts ++ rest) r.whole ∙ append_assoc front r.rest rest;
    followed = followed_join (configuration_after p front) r.rest rest r.followed
        (subst (λ g. IsFollowedFrom p k o g rest) (after_front front order r) h);
  }

  pub followed_back : (front order rest : List Ticket) → IsFollowedAfter p k o front order → IsFollowedAfter p k o front (order ++ rest)
      → IsFollowedFrom p k o (configuration_after p order) rest
  followed_back front order rest r whole =
      let same : r.rest ++ rest ≡ whole.rest =
      append_cancel_left front (r.rest ++ rest) whole.rest (sym (append_assoc front r.rest rest) ∙ (ap (λ ts. ts ++ rest) (sym r.whole) ∙ whole.whole)) in
      subst (λ g. IsFollowedFrom p k o g rest) (sym (after_front front order r))
      (followed_rest (configuration_after p front) r.rest rest (subst (IsFollowedFrom p k o (configuration_after p front)) (sym same) whole.followed))

-- ---- as code finds it: a place of the client's class that goes on, with as many blocks begun

abbrev pub IsLikeAt : Classes → (s t : StandingShape) → (goes client place : ℕ) → Type 0
IsLikeAt k s t goes client place =
    (in_byte goes place ≡ true) × (k place ≡ k client) × ((configuration_in t).begun place ≡ (configuration_in s).begun client)

pub none_more : (k : Classes) (s t : StandingShape) (goes client place : ℕ)
    → ((i : ℕ) → i < place → IsLikeAt k s t goes client i → ⊥) → (IsLikeAt k s t goes client place → ⊥)
    → (i : ℕ) → i < place + 1 → IsLikeAt k s t goes client i → ⊥
none_more k s t goes client place before here i less like = elim (cases_lt i place) [
  | inl under ↦ before i under like
  | inr past ↦ let same : i ≡ place = omega (arith, less, past) in here (subst (IsLikeAt k s t goes client) same like)
]

module _ (p : ProgramShape) (k : Classes) (s t : StandingShape) (goes client : ℕ) (place : ℕ) (placed : IsPlacedAs p k s t)
    (are : in_byte goes ≡ goes_on p (configuration_in t).begun) where
  pub goes_up_to : IsLikeAt k s t goes client place → GoesOnUpTo p k (configuration_in s) client
  goes_up_to like = record {
    arranged = configuration_in t;
    becomes = placed.becomes;
    in_order = placed.placed.arranged;
    place = place;
    alike = like.1;
    begun = like.2;
    goes = sym (λ i. are i place) ∙ like.0;
  }

  -- whoever goes on up to changes is like one of the program's clients
  pub like_none : length p.clients ≤ place → ((i : ℕ) → i < place → IsLikeAt k s t goes client i → ⊥) → GoesOnUpTo p k (configuration_in s) client → ⊥
  like_none past none on =
      let same : on.arranged ≡ configuration_in t =
      one_arranged k (configuration_in s) (configuration_in t) on.arranged placed.becomes on.becomes placed.placed.arranged on.in_order in
      let here : goes_on p (configuration_in t).begun on.place ≡ true = subst (λ (g : Configuration). goes_on p g.begun on.place ≡ true) same on.goes in
      let less : on.place < length p.clients =
      has_place p on.place ((configuration_in t).begun on.place) ((some_go_on p (configuration_in t).begun).undisturbed.left on.place here) in
      none on.place (omega (arith, less, past)) (
        (λ i. are i on.place) ∙ here,
        on.alike,
        ap (λ (g : Configuration). g.begun on.place) (sym same) ∙ on.begun,
      )
