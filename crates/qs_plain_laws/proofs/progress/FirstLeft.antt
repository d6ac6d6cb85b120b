-- The first ticket of an order that is left somewhere, for both machines. At each object the tickets of the order that
-- reserve it are those that are over there, and behind them those in its line. So the tickets are gone through from the
-- first on, as long as each is over at all objects of its list. The first that is not is the first in some line, and at
-- each object of its list it is over or the first in the line. With no ticket left the lines are empty.
use Rattle.std.proofs.Common.{◌≡◌, ◌∙◌, ◌==◌, ◌⊎◌, ◌||◌, append-nil, inl, inr, ⊎_elim, ℕ, Bool, true, false, true≢false, List, [], ◌∷◌, ◌++◌, filter, refl, sym, ap, subst, rules}
use Rattle.qs_played.proofs.Names.{AllByRecursion, Ticket, eqb_self, num_cases, ProgramShape, text_of, is_in, reserves, each_map, each_unfiltered, every, Among}
use Rattle.qs_played.proofs.Orders.{each_among}

-- where a list that is all of one part or another is
head_of_all : {X : Type 0} (xs ys : List X) (y : X) (zs : List X) → y ∷ ys ≡ xs ++ zs
    → (zs ≡ y ∷ ys) ⊎ ((later : List X) × (xs ≡ y ∷ later) × (ys ≡ later ++ zs))
head_of_all [] ys y zs e = inl (sym e)
head_of_all (x ∷ xs) ys y zs e = search rules

back_none : {X : Type 0} (xs ys : List X) → [] ≡ xs ++ ys → ys ≡ []
back_none [] ys e = sym e
back_none (x ∷ xs) ys e = absurd (cc)

module _ (p : ProgramShape) (line : ℕ → List Ticket) (IsOver : ℕ → Ticket → Type 0) where
  -- at each object of its list a ticket is the first in the line, or over
  abbrev pub IsFirstLeft : Ticket → Type 0
  IsFirstLeft t = (h : ℕ) → reserves p t h ≡ true → ((us : List Ticket) × (line h ≡ t ∷ us)) ⊎ IsOver h t

  -- from some tickets on: at an object those before that are over, and those that are left are its line
  record Left (ts : List Ticket) (h : ℕ) : Type 0 where
    pub served : List Ticket
    pub over : AllByRecursion (IsOver h) served
    pub mine : filter (λ t. reserves p t h) ts ≡ served ++ line h

  -- the first ticket is the first in its object's line, or over there
  first_or_over : (t : Ticket) (ts : List Ticket) (h : ℕ) → reserves p t h ≡ true → Left (t ∷ ts) h
      → ((us : List Ticket) × (line h ≡ t ∷ us)) ⊎ (IsOver h t × Left ts h)
  first_or_over t ts h e left = search (rules, head_of_all)

  passed : (t : Ticket) (ts : List Ticket) (h : ℕ) → reserves p t h ≡ false → Left (t ∷ ts) h → Left ts h
  passed t ts h e left = search (rules, filter, left)

  module _ (t : Ticket) (ts : List Ticket) (left : (h : ℕ) → Left (t ∷ ts) h) where
    is_first : IsFirstLeft t
    is_first h mine =
        elim (first_or_over t ts h mine (left h)) [ inl first ↦ inl first | inr over ↦ inr over.0 ]

    -- through the objects of its list
    through : (ks : List ℕ) → ((h : ℕ) → is_in ks h ≡ true → reserves p t h ≡ true)
        → ((h : ℕ) × (us : List Ticket) × (reserves p t h ≡ true) × (line h ≡ t ∷ us))
        ⊎ ((h : ℕ) → is_in ks h ≡ true → Left ts h)
    through [] mine = inr (λ h e. absurd (cc))
    through (g ∷ ks) mine =
        let here = mine g (rw (eqb_self g) refl) in
        elim (first_or_over t ts g here (left g)) [
          | inl first ↦ inl (g, first.0, here, first.1)
          | inr over ↦
              elim (through ks (λ h e. mine h (later h (g == h) e))) [
                | inl found ↦ inl found
                | inr others ↦ inr (λ h e. ⊎_elim
                    (λ (is : g ≡ h). subst (Left ts) is over.1)
                    (λ (other : (g == h) ≡ false). others h (rest_of h (g == h) other e))
                    (num_cases g h))
              ]
        ]
      where
        later : (h : ℕ) (b : Bool) → is_in ks h ≡ true → (b || is_in ks h) ≡ true
        later h v e = search rules

        rest_of : (h : ℕ) (b : Bool) → b ≡ false → (b || is_in ks h) ≡ true → is_in ks h ≡ true
        rest_of h v apart e = search (rules, true≢false)

    -- over at all of them, it is left behind
    all_passed : ((h : ℕ) → is_in (text_of p t).reserved h ≡ true → Left ts h) → (h : ℕ) → Left ts h
    all_passed each h = by_test (reserves p t h) refl
      where
        by_test : (b : Bool) → reserves p t h ≡ b → Left ts h
        by_test true e = each h e
        by_test false e = passed t ts h e (left h)

  module _ (order : List Ticket) (past : ℕ → List Ticket) (past_over : (h : ℕ) → AllByRecursion (IsOver h) (past h))
      (split : (h : ℕ) → filter (λ t. reserves p t h) order ≡ past h ++ line h) where
    -- where no ticket is left at an object, those that reserve it are over
    pub all_over : (h : ℕ) (t : Ticket) → line h ≡ [] → Among t order → reserves p t h ≡ true → IsOver h t
    all_over h t none a e =
        let mine : filter (λ u. reserves p u h) order ≡ past h =
        split h ∙ (ap (λ q. past h ++ q) none ∙ append-nil (past h)) in
        let over : AllByRecursion (IsOver h) (filter (λ u. reserves p u h) order) =
        subst (AllByRecursion (IsOver h)) (sym mine) (past_over h) in
        each_among (λ u. reserves p u h ≡ true → IsOver h u) t order
        (each_unfiltered (λ u. reserves p u h ≡ true → IsOver h u) (λ u. reserves p u h) order
        (each_map (λ u d m. d) (filter (λ u. reserves p u h) order) over)
        (every (λ u apart some. absurd (true≢false (sym some ∙ apart))) order))
        a e

    -- what is so with a ticket that is the first one left, and the first in some line
    module _ (Goes : Type 0)
        (goes : (t : Ticket) → Among t order → IsFirstLeft t
        → (h : ℕ) (us : List Ticket) → reserves p t h ≡ true → line h ≡ t ∷ us → Goes) where
      walk : (ts : List Ticket) → ((t : Ticket) → Among t ts → Among t order) → ((h : ℕ) → Left ts h)
          → Goes ⊎ ((h : ℕ) → line h ≡ [])
      walk [] inner left = inr (λ h. back_none (left h).served (line h) (left h).mine)
      walk (t ∷ ts) inner left =
          elim (through t ts left (text_of p t).reserved (λ h e. e)) [
            | inl (h, us, mine, first) ↦ inl (goes t (inner t (inl refl)) (is_first t ts left) h us mine first)
            | inr each ↦ walk ts (λ u a. inner u (inr a)) (all_passed t ts left each)
          ]

      -- so it is, or the lines are empty
      pub goes_or_none : Goes ⊎ ((h : ℕ) → line h ≡ [])
      goes_or_none =
          walk order (λ t a. a) (λ h. record { served = past h; over = past_over h; mine = split h })
