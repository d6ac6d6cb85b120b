-- A visit passes a node's set on along its edges, keeps what is known true, leaves every other node settled, and uses
-- up at most its share of the turns. The proofs of `visit`, `run` and `held_sets_counted` stand on it, from the
-- beginning of the computation to its end. It goes edge by edge, with cases on whether the set that arrives changes
-- anything.
use Rattle.std.proofs.Common.{◌≡◌, ◌≢◌, ℕ, zero, suc, ◌+◌, ◌*◌, ◌<◌, ◌≤◌, ◌^◌, ◌⊎◌, inl, inr, Bool, true, false, List, [], ◌∷◌, ◌++◌, length, get_or, set, take, replicate, Some, refl, sym, ap, subst, ◌∙◌, arith, bit_and, ◌==◌, All, Contains}
use Rattle.std.proofs.lemmas.Bool.{cases_eq, cases_lt}
use Rattle.std.proofs.lemmas.List.{get_or-replicate, get_or-set_other, get_or-set_same, get_or_past, length-replicate, length-set, length_push, set-get_or}
use Rattle.std.proofs.lemmas.List.Elements.{All-nil, All-cons, All-replicate, All-pop, All-weaker, All-push, Contains-push, Contains-append_left, Contains-push_cases}
use Rattle.std.proofs.lemmas.List.Sums.{sum_by-set, sum_by-le}
use Rattle.std.proofs.lemmas.Nat.{and_le_l}
use Rattle.std.proofs.lemmas.Nat.Bits.{bit_at_ones, bit_at-zero}
use Rattle.qs_program.specs.audit.Limits.{most_handlers}
use Rattle.qs_graph.specs.audit.Nodes.{ControlGraph, place_at}
use Rattle.qs_graph.specs.audit.Paths.{IsAmong, HasEdge}
use Rattle.qs_objects.specs.ByteSets.{in_byte}
use Rattle.qs_syncset.specs.held.Bytes.{size, truths_of}
use Rattle.qs_syncset.specs.held.Dataflow.{State, IsKnown, IsPassed, IsSettled, IsTaken, IsWork, holding_of_node, reached_at, set_at, state, turns_left, unreached_count}
use Rattle.qs_syncset.specs.held.Flow.{held_after, HasArrived}
use Rattle.qs_syncset.specs.held.Table.{AreSetsOf}
use Rattle.qs_syncset.proofs.held.Bits.{at_most_8, both_less, none_in_0, shrunk_less}
use Rattle.qs_syncset.proofs.held.Transfer.{IsFair, IsMetAt, bytes_are_sets, entry_still, passed_still, reached_still, reached_there, reached_was, set_elsewhere, witnessed_still}

-- ---- the edges of a node, one after another

pub among_at : (es : List ℕ) (i : ℕ) → i < length es → IsAmong (get_or es i 0) es
among_at [] i inside = absurd (omega arith)
among_at (e ∷ es) zero inside = inl refl
among_at (e ∷ es) (suc i) inside = inr (among_at es i (omega arith))

among_taken : (n : ℕ) (es : List ℕ) (i : ℕ) → i < length es → IsAmong n (take (suc i) es) → IsAmong n (take i es) ⊎ (n ≡ get_or es i 0)
among_taken n [] i inside among = absurd (omega arith)
among_taken n (e ∷ es) zero inside (inl same) = inr same
among_taken n (e ∷ es) zero inside (inr later) = absurd later
among_taken n (e ∷ es) (suc i) inside (inl same) = inl (inl same)
among_taken n (e ∷ es) (suc i) inside (inr later) = elim (among_taken n es i (omega arith) later) [
  | inl before ↦ inl (inr before)
  | inr here ↦ inr here
]

-- what holds of the edges before the next one, and of it, holds of all up to it
pub arrived_more : (P : ℕ → Type 0) (es : List ℕ) (i : ℕ) → i < length es → ((n : ℕ) → IsAmong n (take i es) → P n) → P (get_or es i 0)
    → (n : ℕ) → IsAmong n (take (i + 1) es) → P n
arrived_more P es i inside before here n among =
    let more : i + 1 ≡ suc i = omega arith in
    elim (among_taken n es i inside (subst (λ k. IsAmong n (take k es)) more among)) [
      | inl earlier ↦ before n earlier
      | inr same ↦ subst P (sym same) here
    ]

-- ---- one passing along an edge

module _ (old new : State) (to out : ℕ) (inside_reached : to < length old.reached) (inside : to < length old.sets) where
  pub passed_met : IsPassed old new to out → IsMetAt old new to out
  passed_met (inl k) = record {
    inside_reached = inside_reached;
    inside = inside;
    reached = ap (λ (s : State). s.reached) k.same ∙ sym (set-get_or old.reached to false) ∙ ap (λ r. set old.reached to r) k.reached;
    sets = ap (λ (s : State). s.sets) k.same ∙ sym (set-get_or old.sets to 255) ∙ ap (λ s. set old.sets to s) (sym k.below);
  }
  passed_met (inr p) = record { inside_reached = inside_reached; inside = inside; reached = p.reached; sets = p.sets }

  listed_still : IsPassed old new to out → All (λ m. reached_at old m ≡ true) old.list → All (λ m. reached_at new m ≡ true) new.list
  listed_still (inl k) all = rw k.same all
  listed_still (inr p) all =
      let met = passed_met (inr p) in
      rw p.list (All-push (λ m. reached_at new m ≡ true) old.list to
      (All-weaker (λ m. reached_at old m ≡ true) (λ m. reached_at new m ≡ true) (reached_still old new to out met) old.list all)
      (reached_there old new to out met))

  known_still : (g : ControlGraph) → IsPassed old new to out → IsKnown g old → IsFair g to out → IsKnown g new
  known_still g p k fair =
      let met = passed_met p in
      record {
        each_reached = ap length met.reached ∙ length-set old.reached to true ∙ k.each_reached;
        each_set = ap length met.sets ∙ length-set old.sets to (bit_and (set_at old to) out) ∙ k.each_set;
        witnessed = witnessed_still old new to out met g k.witnessed fair;
        entry = entry_still old new to out met k.entry;
        listed = listed_still p k.listed;
      }

  -- a node stays settled unless it is met, and then it is on the list or its set is as before
  settled_still : (g : ControlGraph) (m : ℕ) → IsPassed old new to out → IsSettled g old m → IsSettled g new m
  settled_still g m (inl k) s = rw k.same s
  settled_still g m (inr p) (inl listed) = inl (rw p.list (Contains-append_left old.list (to ∷ []) m listed))
  settled_still g m (inr p) (inr passed) = elim (cases_eq m to) [
    | inl same ↦ inl (rw (p.list, same) (Contains-push old.list to))
    | inr other ↦ inr (passed_still old new to out (passed_met (inr p)) g m other passed)
  ]

  -- a node that is reached now was so before, or it is on the list
  reached_before : (m : ℕ) → IsPassed old new to out → reached_at new m ≡ true → (reached_at old m ≡ true) ⊎ Contains new.list m
  reached_before m (inl k) r = inl (rw k.same at r)
  reached_before m (inr p) r = elim (cases_eq m to) [
    | inl same ↦ inr (rw (p.list, same) (Contains-push old.list to))
    | inr other ↦ inl (reached_was old new to out (passed_met (inr p)) m other r)
  ]

  -- a node whose set changes is on the list
  tracked_still : (x first : ℕ) → IsPassed old new to out → Contains old.list x ⊎ (set_at old x ≡ first)
      → Contains new.list x ⊎ (set_at new x ≡ first)
  tracked_still x first (inl k) t = rw k.same t
  tracked_still x first (inr p) (inl listed) = inl (rw p.list (Contains-append_left old.list (to ∷ []) x listed))
  tracked_still x first (inr p) (inr same) = elim (cases_eq x to) [
    | inl here ↦ inl (rw (p.list, here) (Contains-push old.list to))
    | inr other ↦ inr (set_elsewhere old new to out (passed_met (inr p)) x other ∙ same)
  ]

  lighter : (r : Bool) (s : ℕ) → s < 2 ^ 8 → (r ≡ false) ⊎ (bit_and s out ≢ s) → size (bit_and s out) + 1 ≤ unreached_count r + size s
  lighter r s small (inl first) = rw first (omega (arith, both_less s out))
  lighter r s small (inr shrunk) = omega (arith, shrunk_less s out small (omega (arith, and_le_l s out)) shrunk)

  -- a turn that is put on the list is paid for by the node that changes
  less_left : IsPassed old new to out → turns_left new ≤ turns_left old
  less_left (inl k) = rw k.same (omega arith)
  less_left (inr p) =
      let marked = sum_by-set unreached_count old.reached to true false inside_reached in
      let shrunk = sum_by-set size old.sets to (bit_and (set_at old to) out) 255 inside in
      let paid = lighter (reached_at old to) (set_at old to) p.in_range p.why in
      rw (p.reached, p.sets, p.list, length_push old.list to) (omega (arith, marked, shrunk, paid))

  list_grows : IsPassed old new to out → length old.list ≤ length new.list
  list_grows (inl k) = rw k.same (omega arith)
  list_grows (inr p) = rw (p.list, length_push old.list to) (omega arith)

-- ---- a visit of x, whose set was `first` as it began, with `listed` nodes on the list; `most` bounds the turns that
-- are left

pub record IsVisit (g : ControlGraph) (x first listed most : ℕ) (s : State) : Type 0 where
  pub known : IsKnown g s
  pub settled : (m : ℕ) → reached_at s m ≡ true → m ≢ x → IsSettled g s m
  pub tracked : Contains s.list x ⊎ (set_at s x ≡ first)
  pub grown : listed ≤ length s.list
  pub cost : turns_left s ≤ most

pub visit_passed : (g : ControlGraph) (x first listed most : ℕ) (old new : State) (to out : ℕ) → to < length g.nodes → IsVisit g x first listed most old
    → IsFair g to out → IsPassed old new to out → IsVisit g x first listed most new
visit_passed g x first listed most old new to out inside v fair p =
    let within_reached : to < length old.reached = omega (arith, v.known.each_reached) in
    let within : to < length old.sets = omega (arith, v.known.each_set) in
    record {
      known = known_still old new to out within_reached within g p v.known fair;
      settled = λ m r other. elim (reached_before old new to out within_reached within m p r) [
        | inl before ↦ settled_still old new to out within_reached within g m p (v.settled m before other)
        | inr again ↦ inl again
      ];
      tracked = tracked_still old new to out within_reached within x first p v.tracked;
      grown = omega (arith, list_grows old new to out within_reached within p, v.grown);
      cost = omega (arith, less_left old new to out within_reached within p, v.cost);
    }

-- what goes out of x has come to each node that it leads to, unless x was put on the list again
pub visit_done : (g : ControlGraph) (x first listed most : ℕ) (s : State) (out : ℕ) → IsVisit g x first listed most s
    → ((n : ℕ) → HasEdge g.nodes x n → HasArrived (reached_at s) (holding_of_node s) n (in_byte out))
    → ((h : ℕ) → h < most_handlers → in_byte out h ≡ held_after g (place_at g.nodes x).node (in_byte first) h) → IsWork g s
visit_done g x first listed most s out v arrived is = record {
  known = v.known;
  settled = λ m r. elim (cases_eq m x) [
    | inl same ↦ subst (IsSettled g s) (sym same) (elim v.tracked [
      | inl again ↦ inl again
      | inr unchanged ↦ inr (λ n edge.
          let a : HasArrived (reached_at s) (holding_of_node s) n (in_byte out) = arrived n edge in
          record {
            reach = a.reach;
            below = λ h below t.
                ap (λ set. held_after g (place_at g.nodes x).node (in_byte set) h) unchanged ∙ sym (is h below) ∙ a.below h below t;
          })
    ])
    | inr other ↦ v.settled m r other
  ];
}

-- ---- the node that is taken from the list

pub work_taken : (g : ControlGraph) (reached : List Bool) (sets list rest : List ℕ) (x : ℕ) → list ≡ rest ++ x ∷ []
    → IsWork g (state reached sets list) → IsTaken g (state reached sets rest) x
work_taken g reached sets list rest x e w =
    let both = All-pop (λ m. reached_at (state reached sets list) m ≡ true) list rest (Some x) e w.known.listed in
    record {
      known = record {
        each_reached = w.known.each_reached;
        each_set = w.known.each_set;
        witnessed = w.known.witnessed;
        entry = w.known.entry;
        listed = both.0;
      };
      reached = both.1;
      settled = λ m r other. elim (w.settled m r) [
        | inl listed ↦ elim (Contains-push_cases rest x m (rw e at listed)) [ inl left ↦ inl left | inr same ↦ absurd (other (sym same)) ]
        | inr passed ↦ inr passed
      ];
    }

-- where the list is empty, the bytes are the held sets
pub done_sets : (g : ControlGraph) (reached : List Bool) (sets : List ℕ) → IsWork g (state reached sets []) → AreSetsOf g (truths_of sets)
done_sets g reached sets w =
    bytes_are_sets g (state reached sets []) w.known.each_set w.known.witnessed w.known.entry
    (λ m r. elim (w.settled m r) [
      | inl listed ↦ absurd (let never : listed.0 < 0 = listed.1 in omega arith)
      | inr passed ↦ passed
    ])

-- ---- the pass as it begins, for n nodes

abbrev pub first_state : ℕ → State
first_state n = state (set (replicate n false) 0 true) (set (replicate n 255) 0 0) (0 ∷ [])

module _ (n : ℕ) (some : 0 < n) where
  begun_first : reached_at (first_state n) 0 ≡ true
  begun_first = get_or-set_same (replicate n false) 0 true false (rw (length-replicate {A = Bool} n false) some)

  begun_empty : set_at (first_state n) 0 ≡ 0
  begun_empty = get_or-set_same (replicate n 255) 0 0 255 (rw (length-replicate {A = ℕ} n 255) some)

  replicated : {A : Type 0} (a : A) (m : ℕ) → get_or (replicate n a) m a ≡ a
  replicated a m = elim (cases_lt m n) [
    | inl inside ↦ get_or-replicate n m a a inside
    | inr past ↦ get_or_past (replicate n a) m a (rw (length-replicate n a) past)
  ]

  begun_unreached : (m : ℕ) → m ≢ 0 → reached_at (first_state n) m ≡ true → ⊥
  begun_unreached m other r =
      let none : reached_at (first_state n) m ≡ false =
      get_or-set_other (replicate n false) 0 m true false other ∙ replicated false m in
      let never : false ≡ true = sym none ∙ r in cc

  begun_full : (m h : ℕ) → m ≢ 0 → h < most_handlers → holding_of_node (first_state n) m h ≡ false → ⊥
  begun_full m h other below missing =
      let full : set_at (first_state n) m ≡ 255 = get_or-set_other (replicate n 255) 0 m 0 255 other ∙ replicated 255 m in
      let all : holding_of_node (first_state n) m h ≡ true = ap (λ s. in_byte s h) full ∙ ap (λ x. x == 1) (bit_at_ones 8 h below) in
      let never : true ≡ false = sym all ∙ missing in cc

  pub begun_known : (g : ControlGraph) → n ≡ length g.nodes → IsKnown g (first_state n)
  begun_known g count = record {
    each_reached = length-set (replicate n false) 0 true ∙ length-replicate {A = Bool} n false ∙ count;
    each_set = length-set (replicate n 255) 0 0 ∙ length-replicate {A = ℕ} n 255 ∙ count;
    witnessed = record {
      reach = λ m r. elim (cases_eq m 0) [
        | inl e ↦ record { before = []; path = e }
        | inr other ↦ absurd (begun_unreached m other r)
      ];
      miss = λ m h below f. elim (cases_eq m 0) [
        | inl e ↦ record { before = []; path = e; missed = refl }
        | inr other ↦ absurd (begun_full m h other below f)
      ];
    };
    entry = record {
      reach = begun_first;
      none = λ h below. ap (λ s. in_byte s h) begun_empty ∙ ap (λ x. x == 1) (bit_at-zero h);
    };
    listed = All-cons (λ m. reached_at (first_state n) m ≡ true) 0 [] begun_first (All-nil (λ m. reached_at (first_state n) m ≡ true));
  }

  pub begun_work : (g : ControlGraph) → n ≡ length g.nodes → IsWork g (first_state n)
  begun_work g count = record {
    known = begun_known g count;
    settled = λ m r. elim (cases_eq m 0) [
      | inl e ↦ inl (rw e (Contains-push [] 0))
      | inr other ↦ absurd (begun_unreached m other r)
    ];
  }

  pub begun_left : turns_left (first_state n) ≤ 9 * n
  begun_left =
      let none : List Bool = replicate n false in
      let full : List ℕ = replicate n 255 in
      let first : unreached_count (get_or none 0 false) ≡ 1 = ap unreached_count (get_or-replicate {A = Bool} n 0 false false some) in
      let reached = sum_by-set unreached_count none 0 true false (rw (length-replicate {A = Bool} n false) some) in
      let sets = sum_by-set size full 0 0 255 (rw (length-replicate {A = ℕ} n 255) some) in
      let each_reached = sum_by-le unreached_count 1 none (All-replicate (λ r. unreached_count r ≤ 1) n false (omega arith)) in
      let each_set = sum_by-le size 8 full (All-replicate (λ s. size s ≤ most_handlers) n 255 (at_most_8 255)) in
      omega (arith, first, reached, sets, each_reached, each_set, length-replicate {A = Bool} n false, length-replicate {A = ℕ} n 255, none_in_0)
