-- Whether a handler is held at a node of a graph can be decided, although there is no end of paths. At first all is
-- believed: no node but Entry is reached, and everything is held elsewhere. Where what goes out of a reached node has
-- not come to the next one, one belief is given up, with a path that shows why. There are only so many of them, so at
-- last nothing changes any more, and what is believed then is so.
use Rattle.std.proofs.Common.{◌≡◌, ◌≢◌, ◌⊎◌, inl, inr, ⊎_elim, ◌∙◌, ℕ, zero, suc, ◌+◌, ◌<◌, ◌≤◌, ◌==◌, arith, Bool, true, false, true≢false, if◌then◌else◌, List, [], ◌∷◌, length, refl, sym, ap, subst, not}
use Rattle.std.specs.List.{AllByRecursion}
use Rattle.std.proofs.lemmas.Bool.{cases_lt, not-true}
use Rattle.std.proofs.lemmas.List.{get_or_past}
use Rattle.qs_objects.proofs.Choices.{apart_eqb, eqb_apart, num_cases}
use Rattle.qs_objects.proofs.Elements.{AllByRecursion-get_or}
use Rattle.qs_program.specs.audit.Limits.{most_handlers}
use Rattle.qs_meaning.specs.audit.Solo.{put}
use Rattle.qs_meaning.proofs.TreeWalks.{put_here, put_there}
use Rattle.qs_graph.specs.audit.Nodes.{ControlGraph, GraphNode, exit, place_at}
use Rattle.qs_graph.specs.audit.Paths.{HasEdge, IsAmong}
use Rattle.qs_graph.specs.WellFormed.{IsGraph, IsGraphNode}
use Rattle.qs_syncset.specs.held.Flow.{AreWitnessed, HasArrived, IsMissed, IsPassedOn, HasPath, held_after}
use Rattle.qs_syncset.specs.audit.held.Held.{IsHeld}
use Rattle.qs_syncset.proofs.held.Paths.{held_is, missed_past, reached_past}

-- what is believed of a node: below 8 that a handler is held there, and at 8 that no path leads there
abbrev Beliefs : Type 0
Beliefs = ℕ → ℕ → Bool

abbrev lower : Beliefs → ℕ → ℕ → Beliefs
lower s n j = put s n (put (s n) j false)

lower_row : (s : Beliefs) (n j m : ℕ) → n ≡ m → lower s n j m ≡ put (s n) j false
lower_row s n j m is = subst (λ k. lower s n j k ≡ put (s n) j false) is (put_here s n (put (s n) j false))

lower_other : (s : Beliefs) (n j m : ℕ) → (n == m) ≡ false → lower s n j m ≡ s m
lower_other s n j m other = put_there s n (put (s n) j false) m other

-- what was given up is this one, or was given up before
lowered : (s : Beliefs) (n j m i : ℕ) → lower s n j m i ≡ false → ((n ≡ m) × (j ≡ i)) ⊎ (s m i ≡ false)
lowered s n j m i f =
    ⊎_elim
    (λ (is : n ≡ m).
    ⊎_elim
    (λ (at : j ≡ i). inl (is, at))
    (λ (other : (j == i) ≡ false).
    inr
    (ap (λ k. s k i) (sym is)
    ∙ (sym (put_there (s n) j false i other) ∙ (ap (λ (row : ℕ → Bool). row i) (sym (lower_row s n j m is)) ∙ f))))
    (num_cases j i))
    (λ (other : (n == m) ≡ false). inr (ap (λ (row : ℕ → Bool). row i) (sym (lower_other s n j m other)) ∙ f))
    (num_cases n m)

still_lowered : (s : Beliefs) (n j m i : ℕ) → s m i ≡ false → lower s n j m i ≡ false
still_lowered s n j m i f =
    ⊎_elim
    (λ (is : n ≡ m).
    ap (λ (row : ℕ → Bool). row i) (lower_row s n j m is)
    ∙ ⊎_elim
    (λ (at : j ≡ i). subst (λ k. put (s n) j false k ≡ false) at (put_here (s n) j false))
    (λ (other : (j == i) ≡ false). put_there (s n) j false i other ∙ (ap (λ k. s k i) is ∙ f))
    (num_cases j i))
    (λ (other : (n == m) ≡ false). ap (λ (row : ℕ → Bool). row i) (lower_other s n j m other) ∙ f)
    (num_cases n m)

-- how many beliefs there are

abbrev one : Bool → ℕ
one b = if b then 1 else 0

ones : ℕ → (ℕ → Bool) → ℕ
ones zero row = 0
ones (suc k) row = one (row k) + ones k row

ones_same : (k : ℕ) (f g : ℕ → Bool) → ((i : ℕ) → i < k → f i ≡ g i) → ones k f ≡ ones k g
unfolding ones
ones_same zero f g same = refl
ones_same (suc k) f g same =
    let rest : ones k f ≡ ones k g = ones_same k f g (λ i less. same i (omega (arith, less))) in
    let top : one (f k) ≡ one (g k) = ap one (same k (omega arith)) in omega (arith, rest, top)

ones_less : (k : ℕ) (f : ℕ → Bool) (j : ℕ) → j < k → f j ≡ true → ones k (put f j false) < ones k f
unfolding ones
ones_less zero f j less is = absurd (omega (arith, less))
ones_less (suc k) f j less is =
    ⊎_elim
    (λ (at : j ≡ k).
    let top : one (put f j false k) ≡ 0 = ap one (subst (λ i. put f j false i ≡ false) at (put_here f j false)) in
    let was : one (f k) ≡ 1 = ap one (subst (λ i. f i ≡ true) at is) in
    let rest : ones k (put f j false) ≡ ones k f =
    ones_same k (put f j false) f
    (λ i below. put_there f j false i (eqb_apart j i (λ same. omega (arith, below, at, same)))) in
    omega (arith, top, was, rest))
    (λ (other : (j == k) ≡ false).
    let top : one (put f j false k) ≡ one (f k) = ap one (put_there f j false k other) in
    let apart : j ≢ k = apart_eqb j k other in
    let rest : ones k (put f j false) < ones k f = ones_less k f j (omega (arith, apart, less)) is in
    omega (arith, top, rest))
    (num_cases j k)

-- of the first k nodes
all_ones : ℕ → ℕ → Beliefs → ℕ
all_ones w zero s = 0
all_ones w (suc k) s = ones w (s k) + all_ones w k s

all_ones_same : (w k : ℕ) (s z : Beliefs) → ((n : ℕ) → n < k → s n ≡ z n) → all_ones w k s ≡ all_ones w k z
unfolding all_ones
all_ones_same w zero s z same = refl
all_ones_same w (suc k) s z same =
    let rest : all_ones w k s ≡ all_ones w k z = all_ones_same w k s z (λ n less. same n (omega (arith, less))) in
    let top : ones w (s k) ≡ ones w (z k) = ap (ones w) (same k (omega arith)) in omega (arith, rest, top)

all_ones_less : (w k : ℕ) (s : Beliefs) (n j : ℕ) → n < k → j < w → s n j ≡ true
    → all_ones w k (lower s n j) < all_ones w k s
unfolding all_ones
all_ones_less w zero s n j less within is = absurd (omega (arith, less))
all_ones_less w (suc k) s n j less within is =
    ⊎_elim
    (λ (at : n ≡ k).
    let row : lower s n j k ≡ put (s n) j false = lower_row s n j k at in
    let here : ones w (lower s n j k) ≡ ones w (put (s n) j false) = ap (ones w) row in
    let fewer : ones w (put (s n) j false) < ones w (s n) = ones_less w (s n) j within is in
    let was : ones w (s n) ≡ ones w (s k) = ap (λ i. ones w (s i)) at in
    let rest : all_ones w k (lower s n j) ≡ all_ones w k s =
    all_ones_same w k (lower s n j) s
    (λ i below. lower_other s n j i (eqb_apart n i (λ same. omega (arith, below, at, same)))) in
    omega (arith, here, fewer, was, rest))
    (λ (other : (n == k) ≡ false).
    let top : ones w (lower s n j k) ≡ ones w (s k) = ap (ones w) (lower_other s n j k other) in
    let apart : n ≢ k = apart_eqb n k other in
    let rest : all_ones w k (lower s n j) < all_ones w k s =
    all_ones_less w k s n j (omega (arith, apart, less)) within is in
    omega (arith, top, rest))
    (num_cases n k)

-- all of them, or something else

each_edge : (A : ℕ → Type 0) (B : Type 0) (ns : List ℕ) → ((n : ℕ) → IsAmong n ns → A n ⊎ B)
    → ((n : ℕ) → IsAmong n ns → A n) ⊎ B
each_edge A B [] f = inl (λ n among. absurd among)
each_edge A B (x ∷ ns) f =
    ⊎_elim
    (λ (here : A x).
    ⊎_elim
    (λ (rest : (n : ℕ) → IsAmong n ns → A n).
    inl (λ n among. ⊎_elim (λ (is : n ≡ x). subst A (sym is) here) (λ (later : IsAmong n ns). rest n later) among))
    (λ (b : B). inr b)
    (each_edge A B ns (λ n among. f n (inr among))))
    (λ (b : B). inr b)
    (f x (inl refl))

each_below : (A : ℕ → Type 0) (B : Type 0) (k : ℕ) → ((n : ℕ) → n < k → A n ⊎ B) → ((n : ℕ) → n < k → A n) ⊎ B
each_below A B zero f = inl (λ n less. absurd (omega (arith, less)))
each_below A B (suc k) f =
    ⊎_elim
    (λ (here : A k).
    ⊎_elim
    (λ (rest : (n : ℕ) → n < k → A n).
    inl (λ n less. ⊎_elim (λ (is : n ≡ k). subst A (sym is) here)
    (λ (other : (n == k) ≡ false). rest n (let apart : n ≢ k = apart_eqb n k other in omega (arith, apart, less)))
    (num_cases n k)))
    (λ (b : B). inr b)
    (each_below A B k (λ n less. f n (omega (arith, less)))))
    (λ (b : B). inr b)
    (f k (omega arith))

module _ (g : ControlGraph) (ok : IsGraph g.nodes) where
  abbrev reached : Beliefs → ℕ → Bool
  reached s n = not (s n most_handlers)

  -- a path that shows why a belief was given up
  record Shows (n j : ℕ) : Type 0 where
    path : j ≡ most_handlers → HasPath g n
    missed : j < most_handlers → IsMissed g n j

  -- what was given up was given up for a reason, and at Entry nothing is believed
  record IsFair (s : Beliefs) : Type 0 where
    shows : (n j : ℕ) → s n j ≡ false → Shows n j
    entry : (j : ℕ) → s 0 j ≡ false

  record CanFall (s : Beliefs) : Type 0 where
    node : ℕ
    which : ℕ
    inside : node < length g.nodes
    within : which < suc most_handlers
    believed : s node which ≡ true
    reason : Shows node which

  abbrev IsClosed : Beliefs → Type 0
  IsClosed s = (m : ℕ) → reached s m ≡ true → IsPassedOn g (reached s) s m

  witnessed : (s : Beliefs) → IsFair s → AreWitnessed g (reached s) s
  witnessed s fair = record {
    reach = λ n is. (fair.shows n most_handlers (not-true (s n most_handlers) is)).path refl;
    miss = λ n h less f. (fair.shows n h f).missed less;
  }

  -- what goes out of a node
  abbrev out : Beliefs → ℕ → ℕ → Bool
  out s m = held_after g (place_at g.nodes m).node (s m)

  -- an edge from a reached node
  edge : (s : Beliefs) → IsFair s → (m n : ℕ) → HasEdge g.nodes m n → reached s m ≡ true → n < length g.nodes
      → HasArrived (reached s) s n (out s m) ⊎ CanFall s
  edge s fair m n has from inside = by_reach (s n most_handlers) refl
    where
      by_out : (h : ℕ) → h < most_handlers → (b c : Bool) → s n h ≡ b → out s m h ≡ c
          → (s n h ≡ true → out s m h ≡ true) ⊎ CanFall s
      by_out h less false c is goes = inl (λ t. absurd (true≢false (sym t ∙ is)))
      by_out h less true true is goes = inl (λ t. goes)
      by_out h less true false is goes = inr (record {
        node = n;
        which = h;
        inside = inside;
        within = omega (arith, less);
        believed = is;
        reason = record {
          path = λ same. absurd (omega (arith, same, less));
          missed = λ below. missed_past g (reached s) s (witnessed s fair) m n h has from below goes;
        };
      })

      by_reach : (b : Bool) → s n most_handlers ≡ b → HasArrived (reached s) s n (out s m) ⊎ CanFall s
      by_reach true is = inr (record {
        node = n;
        which = most_handlers;
        inside = inside;
        within = omega arith;
        believed = is;
        reason = record {
          path = λ same. reached_past g (reached s) s (witnessed s fair) m n has from;
          missed = λ below. absurd (omega (arith, below));
        };
      })
      by_reach false is =
          ⊎_elim
          (λ (each : (h : ℕ) → h < most_handlers → s n h ≡ true → out s m h ≡ true).
          inl (record { reach = ap not is; below = each }))
          (λ (falls : CanFall s). inr falls)
          (each_below (λ h. s n h ≡ true → out s m h ≡ true) (CanFall s) most_handlers
          (λ h less. by_out h less (s n h) (out s m h) refl refl))

  edges_inside : (m : ℕ) → m < length g.nodes → (n : ℕ) → HasEdge g.nodes m n → n < length g.nodes
  edges_inside m less n has =
      let here : IsGraphNode (length g.nodes) (place_at g.nodes m) =
      AllByRecursion-get_or (IsGraphNode (length g.nodes)) g.nodes m exit ok.places less in
      among n (place_at g.nodes m).edges here.edges has
    where
      among : (n : ℕ) (ns : List ℕ) → AllByRecursion (λ k. k < length g.nodes) ns → IsAmong n ns → n < length g.nodes
      among n [] each is = absurd is
      among n (x ∷ ns) each (inl is) = subst (λ k. k < length g.nodes) (sym is) each.0
      among n (x ∷ ns) each (inr later) = among n ns each.1 later

  node_of : (s : Beliefs) → IsFair s → (m : ℕ) → m < length g.nodes
      → (reached s m ≡ true → IsPassedOn g (reached s) s m) ⊎ CanFall s
  node_of s fair m less = by_reach (reached s m) refl
    where
      by_reach : (b : Bool) → reached s m ≡ b → (reached s m ≡ true → IsPassedOn g (reached s) s m) ⊎ CanFall s
      by_reach false is = inl (λ from. absurd (true≢false (sym from ∙ is)))
      by_reach true is =
          ⊎_elim
          (λ (each : (n : ℕ) → IsAmong n (place_at g.nodes m).edges → HasArrived (reached s) s n (out s m)).
          inl (λ from. each))
          (λ (falls : CanFall s). inr falls)
          (each_edge (λ n. HasArrived (reached s) s n (out s m)) (CanFall s) (place_at g.nodes m).edges
          (λ n has. edge s fair m n has is (edges_inside m less n has)))

  -- nothing changes any more, or a belief can be given up
  step : (s : Beliefs) → IsFair s → IsClosed s ⊎ CanFall s
  step s fair =
      ⊎_elim
      (λ (each : (m : ℕ) → m < length g.nodes → reached s m ≡ true → IsPassedOn g (reached s) s m).
      inl (λ m. any m each (cases_lt m (length g.nodes))))
      (λ (falls : CanFall s). inr falls)
      (each_below (λ m. reached s m ≡ true → IsPassedOn g (reached s) s m) (CanFall s) (length g.nodes)
      (node_of s fair))
    where
      any : (m : ℕ) → ((m : ℕ) → m < length g.nodes → reached s m ≡ true → IsPassedOn g (reached s) s m)
          → (m < length g.nodes) ⊎ (length g.nodes ≤ m)
          → reached s m ≡ true → IsPassedOn g (reached s) s m
      any m each (inl less) from n has = each m less from n has
      any m each (inr past) from n has =
          absurd (subst (λ (p : GraphNode). IsAmong n p.edges) (get_or_past g.nodes m exit past) has)

  fall_fair : (s : Beliefs) → IsFair s → (f : CanFall s) → IsFair (lower s f.node f.which)
  fall_fair s fair f = record {
    shows = λ n j gone.
        ⊎_elim
        (λ (here : (f.node ≡ n) × (f.which ≡ j)).
        subst (λ m. Shows m j) here.0 (subst (λ i. Shows f.node i) here.1 f.reason))
        (λ (before : s n j ≡ false). fair.shows n j before)
        (lowered s f.node f.which n j gone);
    entry = λ j. still_lowered s f.node f.which 0 j (fair.entry j);
  }

  -- beliefs that are given up no more
  record Settled : Type 0 where
    beliefs : Beliefs
    fair : IsFair beliefs
    closed : IsClosed beliefs

  abbrev believed_in : Beliefs → ℕ
  believed_in s = all_ones (suc most_handlers) (length g.nodes) s

  settle : (fuel : ℕ) (s : Beliefs) → IsFair s → believed_in s < fuel → Settled
  settle zero s fair less = absurd (omega (arith, less))
  settle (suc fuel) s fair less =
      ⊎_elim
      (λ (closed : IsClosed s). record { beliefs = s; fair = fair; closed = closed })
      (λ (f : CanFall s).
      let fewer : believed_in (lower s f.node f.which) < believed_in s =
      all_ones_less (suc most_handlers) (length g.nodes) s f.node f.which f.inside f.within f.believed in
      settle fuel (lower s f.node f.which) (fall_fair s fair f) (omega (arith, fewer, less)))
      (step s fair)

  first : Beliefs
  first zero j = false
  first (suc n) j = true

  first_fair : IsFair first
  unfolding first
  first_fair = record { shows = λ n j f. reason n j f; entry = λ j. refl }
    where
      reason : (n j : ℕ) → first n j ≡ false → Shows n j
      reason zero j f = record {
        path = λ is. record { before = []; path = refl };
        missed = λ less. record { before = []; path = refl; missed = refl };
      }
      reason (suc n) j f = absurd (let never : true ≡ false = f in cc)

  settled : Settled
  settled = settle (suc (believed_in first)) first first_fair (omega arith)

  pub held_or_not : (n h : ℕ) → h < most_handlers → IsHeld g n h ⊎ (IsHeld g n h → ⊥)
  held_or_not n h less = by_belief (settled.beliefs n h) refl
    where
      exact : (settled.beliefs n h ≡ true → IsHeld g n h) × (IsHeld g n h → settled.beliefs n h ≡ true)
      exact = held_is g (reached settled.beliefs) settled.beliefs (witnessed settled.beliefs settled.fair)
          (record { reach = ap not (settled.fair.entry most_handlers); none = λ h less. settled.fair.entry h })
          settled.closed n h less

      by_belief : (b : Bool) → settled.beliefs n h ≡ b → IsHeld g n h ⊎ (IsHeld g n h → ⊥)
      by_belief true is = inl (exact.0 is)
      by_belief false is = inr (λ held. true≢false (sym (exact.1 held) ∙ is))
