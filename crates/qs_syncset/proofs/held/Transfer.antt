-- When a set is passed along an edge, all that was known of the nodes stays true: what is reached has a path, and what
-- is missing at a node is missing along some path to it. The proofs on a visit of a node stand on it. It goes by cases
-- on whether a node is the one at which the set arrives.
use Rattle.std.proofs.Common.{◌≡◌, ◌≢◌, ℕ, ◌<◌, ◌/◌, ◌^◌, inl, inr, true, false, List, [], length, get_or, set, sym, ap, subst, ◌∙◌, arith, bit_and, ◌&&◌, ◌==◌}
use Rattle.std.proofs.lemmas.Bool.{and_cases, and_parts, cases_eq, cases_lt}
use Rattle.std.proofs.lemmas.List.{get_or-map, get_or-set_other, get_or-set_same, get_or_default, get_or_past, length-map}
use Rattle.std.proofs.lemmas.Nat.Bits.{shr_and_one}
use Rattle.qs_program.specs.audit.Limits.{most_handlers}
use Rattle.qs_graph.specs.audit.Nodes.{ControlGraph, place_at}
use Rattle.qs_graph.specs.declared.node.Node.{Node}
use Rattle.qs_graph.specs.audit.Paths.{HasEdge}
use Rattle.qs_syncset.specs.held.Flow.{Holding, held_after, HasPath, IsMissed, AreWitnessed, HasArrived, IsAtEntry, IsPassedOn}
use Rattle.qs_objects.specs.ByteSets.{in_byte}
use Rattle.qs_syncset.specs.held.Bytes.{truths, truths_of}
use Rattle.qs_syncset.specs.held.Dataflow.{State, holding_of_node, reached_at, set_at}
use Rattle.qs_syncset.specs.held.Table.{AreSetsOf, has}
use Rattle.qs_syncset.proofs.held.Bits.{in_both, truths_at}
use Rattle.qs_syncset.proofs.held.Paths.{held_is, missed_past, reached_past}

-- what goes to n lacks only what some path to n misses
pub record IsFair (g : ControlGraph) (n out : ℕ) : Type 0 where
  pub reached : HasPath g n
  pub lacks : (h : ℕ) → h < most_handlers → in_byte out h ≡ false → IsMissed g n h

-- what comes in has met the set of n, and nothing else has changed
pub record IsMetAt (old new : State) (n out : ℕ) : Type 0 where
  pub inside_reached : n < length old.reached
  pub inside : n < length old.sets
  pub reached : new.reached ≡ set old.reached n true
  pub sets : new.sets ≡ set old.sets n (bit_and (set_at old n) out)

module _ (old new : State) (n out : ℕ) (m : IsMetAt old new n out) where
  pub reached_there : reached_at new n ≡ true
  reached_there = ap (λ r. get_or r n false) m.reached ∙ get_or-set_same old.reached n true false m.inside_reached

  reached_elsewhere : (x : ℕ) → x ≢ n → reached_at new x ≡ reached_at old x
  reached_elsewhere x other = ap (λ r. get_or r x false) m.reached ∙ get_or-set_other old.reached n x true false other

  set_there : set_at new n ≡ bit_and (set_at old n) out
  set_there = ap (λ s. get_or s n 255) m.sets ∙ get_or-set_same old.sets n (bit_and (set_at old n) out) 255 m.inside

  pub set_elsewhere : (x : ℕ) → x ≢ n → set_at new x ≡ set_at old x
  set_elsewhere x other = ap (λ s. get_or s x 255) m.sets ∙ get_or-set_other old.sets n x (bit_and (set_at old n) out) 255 other

  held_there : (h : ℕ) → holding_of_node new n h ≡ holding_of_node old n h && in_byte out h
  held_there h = ap (λ s. in_byte s h) set_there ∙ in_both (set_at old n) out h

  held_elsewhere : (x : ℕ) → x ≢ n → (h : ℕ) → holding_of_node new x h ≡ holding_of_node old x h
  held_elsewhere x other h = ap (λ s. in_byte s h) (set_elsewhere x other)

  pub reached_was : (x : ℕ) → x ≢ n → reached_at new x ≡ true → reached_at old x ≡ true
  reached_was x other r = sym (reached_elsewhere x other) ∙ r

  pub reached_still : (x : ℕ) → reached_at old x ≡ true → reached_at new x ≡ true
  reached_still x r = elim (cases_eq x n) [
    | inl same ↦ rw same reached_there
    | inr other ↦ reached_elsewhere x other ∙ r
  ]

  missed_there : (g : ControlGraph) → AreWitnessed g (reached_at old) (holding_of_node old) → IsFair g n out
      → (h : ℕ) → h < most_handlers → holding_of_node new n h ≡ false → IsMissed g n h
  missed_there g w f h below e = elim (and_cases (holding_of_node old n h) (in_byte out h) (sym (held_there h) ∙ e)) [
    | inl before ↦ w.miss n h below before
    | inr lacking ↦ f.lacks h below lacking
  ]

  pub witnessed_still : (g : ControlGraph) → AreWitnessed g (reached_at old) (holding_of_node old) → IsFair g n out
      → AreWitnessed g (reached_at new) (holding_of_node new)
  witnessed_still g w f = record {
    reach = λ x r. elim (cases_eq x n) [
      | inl same ↦ rw same f.reached
      | inr other ↦ w.reach x (reached_was x other r)
    ];
    miss = λ x h below e. elim (cases_eq x n) [
      | inl same ↦ rw same (missed_there g w f h below (rw same at e))
      | inr other ↦ w.miss x h below (sym (held_elsewhere x other h) ∙ e)
    ];
  }

  pub entry_still : IsAtEntry (reached_at old) (holding_of_node old) → IsAtEntry (reached_at new) (holding_of_node new)
  entry_still entry = record {
    reach = reached_still 0 entry.reach;
    none = λ h below. elim (cases_eq 0 n) [
      | inl same ↦ rw same (held_there h ∙ ap (λ b. b && in_byte out h) (rw same at (entry.none h below)))
      | inr other ↦ held_elsewhere 0 other h ∙ entry.none h below
    ];
  }

  -- what had come to a node is there still
  pub arrived_still : (x : ℕ) (sent : Holding) → HasArrived (reached_at old) (holding_of_node old) x sent
      → HasArrived (reached_at new) (holding_of_node new) x sent
  arrived_still x sent a = record {
    reach = reached_still x a.reach;
    below = λ h below t. elim (cases_eq x n) [
      | inl same ↦
          a.below h below (rw same (and_parts (holding_of_node old n h) (in_byte out h) (sym (held_there h) ∙ (rw same at t))).0)
      | inr other ↦ a.below h below (sym (held_elsewhere x other h) ∙ t)
    ];
  }

  -- what comes in has come
  pub arrived_there : HasArrived (reached_at new) (holding_of_node new) n (in_byte out)
  arrived_there = record {
    reach = reached_there;
    below = λ h below t. (and_parts (holding_of_node old n h) (in_byte out h) (sym (held_there h) ∙ t)).1;
  }

  -- another node has passed on what it has, as before
  pub passed_still : (g : ControlGraph) (x : ℕ) → x ≢ n → IsPassedOn g (reached_at old) (holding_of_node old) x
      → IsPassedOn g (reached_at new) (holding_of_node new) x
  passed_still g x other passed to edge =
      let sent = held_after g (place_at g.nodes x).node (holding_of_node old x) in
      let before : HasArrived (reached_at new) (holding_of_node new) to sent = arrived_still to sent (passed to edge) in
      record {
        reach = before.reach;
        below = λ h below t.
            ap (λ s. held_after g (place_at g.nodes x).node (in_byte s) h) (set_elsewhere x other) ∙ before.below h below t;
      }

-- what goes along an edge of a node that is reached is fair
pub fair_edge : (g : ControlGraph) (s : State) (m n out : ℕ) → AreWitnessed g (reached_at s) (holding_of_node s) → HasEdge g.nodes m n
    → reached_at s m ≡ true → ((h : ℕ) → h < most_handlers → in_byte out h ≡ held_after g (place_at g.nodes m).node (holding_of_node s m) h) → IsFair g n out
fair_edge g s m n out w edge r is = record {
  reached = reached_past g (reached_at s) (holding_of_node s) w m n edge r;
  lacks = λ h below e. missed_past g (reached_at s) (holding_of_node s) w m n h edge r below (sym (is h below) ∙ e);
}

-- a node that is reached is a node
pub reached_inside : (s : State) (n : ℕ) → reached_at s n ≡ true → n < length s.reached
reached_inside s n r = elim (cases_lt n (length s.reached)) [
  | inl inside ↦ inside
  | inr past ↦ absurd (let never : false ≡ true = sym (get_or_past s.reached n false past) ∙ r in cc)
]

-- what goes out of a node, by the byte that the code reads
pub sent_from : (g : ControlGraph) (v : Node) (out : ℕ) (s : State) (x d : ℕ) → v ≡ (place_at g.nodes x).node → x < length s.sets
    → ((h : ℕ) → h < most_handlers → in_byte out h ≡ held_after g v (in_byte (get_or s.sets x d)) h)
    → (h : ℕ) → h < most_handlers → in_byte out h ≡ held_after g (place_at g.nodes x).node (holding_of_node s x) h
sent_from g v out s x d e inside is h below =
    let read : get_or s.sets x d ≡ set_at s x = get_or_default s.sets x d 255 inside in
    subst (λ (w : Node). in_byte out h ≡ held_after g w (holding_of_node s x) h) e
    (is h below ∙ ap (λ n. held_after g v (in_byte n) h) read)

has_byte : (sets : List ℕ) (n h d : ℕ) → n < length sets → h < most_handlers → has (truths_of sets) n h ≡ in_byte (get_or sets n d) h
has_byte sets n h d inside below =
    ap (λ r. get_or r h true) (get_or-map truths sets n d [] inside) ∙ truths_at (get_or sets n d) h below

-- the bit that the code reads
pub has_bit : (sets : List ℕ) (n h : ℕ) → n < length (truths_of sets) → h < most_handlers
    → (bit_and (get_or sets n 0 / 2 ^ h) 1 == 1) ≡ has (truths_of sets) n h
has_bit sets n h inside below =
    ap (λ b. b == 1) (shr_and_one (get_or sets n 0) h) ∙ sym (has_byte sets n h 0 (omega (arith, inside, length-map sets truths)) below)

-- where everything is passed on, the bytes are the held sets
pub bytes_are_sets : (g : ControlGraph) (s : State) → length s.sets ≡ length g.nodes → AreWitnessed g (reached_at s) (holding_of_node s)
    → IsAtEntry (reached_at s) (holding_of_node s) → ((m : ℕ) → reached_at s m ≡ true → IsPassedOn g (reached_at s) (holding_of_node s) m)
    → AreSetsOf g (truths_of s.sets)
bytes_are_sets g s each w entry closed = record {
  nodes = length-map s.sets truths ∙ each;
  exact = λ n h inside below.
      rw (has_byte s.sets n h 255 (omega (arith, each)) below) (held_is g (reached_at s) (holding_of_node s) w entry closed n h below);
}
