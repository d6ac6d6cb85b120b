-- Two blocks that reserve no object both may be run in either order: a block reads and writes its own objects and its
-- own client's variables alone. Reduced orders stand on it. It goes along the interaction tree of a block, whose
-- requests are on its objects.
use Rattle.std.proofs.Common.{◌≡◌, ℕ, suc, Bool, true, false, true≢false, ◌==◌, refl, sym, ap, ◌∙◌, subst, arith, inl, inr}
use Rattle.qs_meaning.proofs.Common.{after, answer, block_at, BlockShape, cases_Bool, is_in, IsSound, Locals, nat_tests, ProgramShape, State}
use Rattle.qs_meaning.specs.audit.Configurations.{Configuration, one_block_on}
use Rattle.qs_meaning.specs.Following.{AsksOnly}
use Rattle.qs_meaning.specs.audit.Interaction.{Interaction, Done, Call, Query, tree_of}
use Rattle.qs_meaning.specs.Interaction.{run}
use Rattle.qs_meaning.specs.Reduced.{AreNextApart, NeighboursSwap}
use Rattle.qs_meaning.specs.audit.Solo.{BlockResult, States, put, solo, states_after, value_of}
use Rattle.qs_meaning.proofs.SoundTrees.{blocks_ask_only}
use Rattle.qs_meaning.proofs.Trees.{trees_agree}
use Rattle.qs_meaning.proofs.TreeWalks.{put_there, untouched}

-- the states are the same on all objects that may be reached
abbrev SameOn : (ℕ → Bool) → States → States → Type 0
SameOn may st su = (h : ℕ) → may h ≡ true → st h ≡ su h

-- the same variables at the end, and the same states on these objects
record EndsSame (may : ℕ → Bool) (a b : BlockResult) : Type 0 where
  pub locals : a.locals ≡ b.locals
  pub states : SameOn may a.states b.states

after_same : (may : ℕ → Bool) (st su : States) (o : ℕ) (s t : State) → SameOn may st su → s ≡ t → SameOn may (put st o s) (put su o t)
after_same may st su o s t same e h m = let k = same h m in grind (arith, nat_tests)

-- where a tree reads the same, it does the same
runs_same : (may : ℕ → Bool) (t : Interaction) (st su : States) → AsksOnly may t → SameOn may st su → EndsSame may (run t st) (run t su)
runs_same may (Done l) st su f same = record { locals = refl; states = same }
runs_same may (Call r next) st su f same =
    let rest = runs_same may next (states_after st r) (states_after su r) f.2
    (after_same may st su r.object (after (st r.object) r) (after (su r.object) r) same (ap (λ s. after s r) (same r.object f.1))) in
    record { locals = rest.locals; states = rest.states }
runs_same may (Query r next) st su f same =
    let here : st r.object ≡ su r.object = same r.object f.1 in
    let rest : EndsSame may (run (next (value_of (answer (st r.object) r))) (states_after st r)) (run (next (value_of (answer (su r.object) r))) (states_after su r)) =
    subst (λ v. EndsSame may (run (next (value_of (answer (st r.object) r))) (states_after st r)) (run (next (value_of v)) (states_after su r))) (ap (λ s. answer s r) here)
    (runs_same may (next (value_of (answer (st r.object) r))) (states_after st r) (states_after su r) (f.2 _)
    (after_same may st su r.object (after (st r.object) r) (after (su r.object) r) same (ap (λ s. after s r) here))) in
    record { locals = rest.locals; states = rest.states }

-- of two values at two places, either may be put first
put_twice_at : {A : Type 0} (f : ℕ → A) (c d : ℕ) (a b : A) → (c == d) ≡ false → (n : ℕ) → put (put f c a) d b n ≡ put (put f d b) c a n
put_twice_at f c d a b apart n = grind (arith, nat_tests)

put_twice : {A : Type 0} (f : ℕ → A) (c d : ℕ) (a b : A) → (c == d) ≡ false → put (put f c a) d b ≡ put (put f d b) c a
put_twice f c d a b apart = λ i n. put_twice_at f c d a b apart n i

-- a tree that touches these objects alone, and another that touches none of them
module _ (t u : Interaction) (may can : ℕ → Bool) (first : AsksOnly may t) (other : AsksOnly can u) (apart : (h : ℕ) → may h ≡ true → can h ≡ false) (st : States) where
  unread : SameOn may st (run u st).states
  unread h m = sym (untouched can u st h other (apart h m))

  -- the first one does the same after the other
  after_other : EndsSame may (run t st) (run t (run u st).states)
  after_other = runs_same may t st (run u st).states first unread

turn_apart : (may can : ℕ → Bool) → ((h : ℕ) → may h ≡ true → can h ≡ false) → (h : ℕ) → can h ≡ true → may h ≡ false
turn_apart may can apart h is = elim (cases_Bool (may h)) [ inl m ↦ absurd (true≢false (sym is ∙ apart h m)) | inr out ↦ out ]

swapped_states : (t u : Interaction) (may can : ℕ → Bool) → AsksOnly may t → AsksOnly can u → ((h : ℕ) → may h ≡ true → can h ≡ false) → (st : States)
    → (run u (run t st).states).states ≡ (run t (run u st).states).states
swapped_states t u may can first other apart st = λ i h. at h i
  where
    at : (h : ℕ) → (run u (run t st).states).states h ≡ (run t (run u st).states).states h
    at h = elim (cases_Bool (may h)) [
      | inl m ↦
          untouched can u (run t st).states h other (apart h m) ∙ (after_other t u may can first other apart st).states h m
      | inr out ↦ elim (cases_Bool (can h)) [
        | inl m ↦
            sym ((after_other u t can may other first (turn_apart may can apart) st).states h m) ∙ sym (untouched may t (run u st).states h first out)
        | inr none ↦
            untouched can u (run t st).states h other none ∙ (untouched may t st h first out
            ∙ (sym (untouched can u st h other none) ∙ sym (untouched may t (run u st).states h first out)))
      ]
    ]

abbrev next_of : ProgramShape → Configuration → ℕ → BlockShape
next_of p g c = block_at p c (g.begun c)

module _ (p : ProgramShape) (sound : IsSound p) where
  asks_next : (g : Configuration) (c : ℕ) (l : Locals) → AsksOnly (is_in (next_of p g c).reserved) (tree_of (next_of p g c).body l)
  asks_next g c l = blocks_ask_only p sound (record { client = c; index = g.begun c }) l

  module _ (g : Configuration) (c d : ℕ) (differ : (c == d) ≡ false) where
    abbrev ran : ℕ → States → BlockResult
    ran k st = solo (next_of p g k).body (g.locals k) st

    -- a client's next block is not changed by another's, nor are its variables
    after_first : one_block_on p d (one_block_on p c g) ≡ record {
      begun = put (put g.begun c (suc (g.begun c))) d (suc (g.begun d));
      locals = put (put g.locals c (ran c g.states).locals) d (ran d (ran c g.states).states).locals;
      states = (ran d (ran c g.states).states).states;
    }
    after_first =
        let count : put g.begun c (suc (g.begun c)) d ≡ g.begun d = put_there g.begun c (suc (g.begun c)) d differ in
        let values : put g.locals c (ran c g.states).locals d ≡ g.locals d = put_there g.locals c (ran c g.states).locals d differ in
        λ i. record {
          begun = put (put g.begun c (suc (g.begun c))) d (suc (count i));
          locals = put (put g.locals c (ran c g.states).locals) d (solo (block_at p d (count i)).body (values i) (ran c g.states).states).locals;
          states = (solo (block_at p d (count i)).body (values i) (ran c g.states).states).states;
        }

  module _ (g : Configuration) (c d : ℕ) (differ : (c == d) ≡ false) (apart : AreNextApart p g.begun c d) where
    turned : (d == c) ≡ false
    turned = grind (arith, nat_tests)

    abbrev mine : ℕ → Bool
    mine = is_in (next_of p g c).reserved

    abbrev yours : ℕ → Bool
    yours = is_in (next_of p g d).reserved

    abbrev t : Interaction
    t = tree_of (next_of p g c).body (g.locals c)

    abbrev u : Interaction
    u = tree_of (next_of p g d).body (g.locals d)

    -- by statements as by trees
    tree_c : (st : States) → solo (next_of p g c).body (g.locals c) st ≡ run t st
    tree_c st = trees_agree (next_of p g c).body (g.locals c) st

    tree_d : (st : States) → solo (next_of p g d).body (g.locals d) st ≡ run u st
    tree_d st = trees_agree (next_of p g d).body (g.locals d) st

    abbrev first_c : BlockResult
    first_c = solo (next_of p g c).body (g.locals c) g.states

    abbrev first_d : BlockResult
    first_d = solo (next_of p g d).body (g.locals d) g.states

    abbrev then_c : BlockResult
    then_c = solo (next_of p g c).body (g.locals c) first_d.states

    abbrev then_d : BlockResult
    then_d = solo (next_of p g d).body (g.locals d) first_c.states

    first : AsksOnly mine t
    first = asks_next g c (g.locals c)

    other : AsksOnly yours u
    other = asks_next g d (g.locals d)

    same_c : first_c.locals ≡ then_c.locals
    same_c =
        ap (λ (o : BlockResult). o.locals) (tree_c g.states)
        ∙ ((after_other t u mine yours first other apart g.states).locals
        ∙ sym (ap (λ (o : BlockResult). o.locals) (tree_c first_d.states) ∙ ap (λ (o : BlockResult). (run t o.states).locals) (tree_d g.states)))

    same_d : first_d.locals ≡ then_d.locals
    same_d =
        ap (λ (o : BlockResult). o.locals) (tree_d g.states)
        ∙ ((after_other u t yours mine other first (turn_apart mine yours apart) g.states).locals
        ∙ sym (ap (λ (o : BlockResult). o.locals) (tree_d first_c.states) ∙ ap (λ (o : BlockResult). (run u o.states).locals) (tree_c g.states)))

    same_states : then_d.states ≡ then_c.states
    same_states =
        ap (λ (o : BlockResult). o.states) (tree_d first_c.states) ∙ (ap (λ (o : BlockResult). (run u o.states).states) (tree_c g.states)
        ∙ (swapped_states t u mine yours first other apart g.states
        ∙ sym (ap (λ (o : BlockResult). o.states) (tree_c first_d.states) ∙ ap (λ (o : BlockResult). (run t o.states).states) (tree_d g.states))))

    counts : put (put g.begun c (suc (g.begun c))) d (suc (g.begun d)) ≡ put (put g.begun d (suc (g.begun d))) c (suc (g.begun c))
    counts = put_twice g.begun c d (suc (g.begun c)) (suc (g.begun d)) differ

    values : put (put g.locals c first_c.locals) d then_d.locals ≡ put (put g.locals d first_d.locals) c then_c.locals
    values =
        put_twice g.locals c d first_c.locals then_d.locals differ ∙ (λ i. put (put g.locals d (sym same_d i)) c (same_c i))

    both : ◌≡◌ {A = Configuration} (record {
      begun = put (put g.begun c (suc (g.begun c))) d (suc (g.begun d));
      locals = put (put g.locals c first_c.locals) d then_d.locals;
      states = then_d.states;
    }) (record {
      begun = put (put g.begun d (suc (g.begun d))) c (suc (g.begun c));
      locals = put (put g.locals d first_d.locals) c then_c.locals;
      states = then_c.states;
    })
    both = λ i. record { begun = counts i; locals = values i; states = same_states i }

    swap_both : one_block_on p d (one_block_on p c g) ≡ one_block_on p c (one_block_on p d g)
    swap_both = after_first g c d differ ∙ (both ∙ sym (after_first g d c turned))

pub neighbours_swap : NeighboursSwap
neighbours_swap p sound g c d differ apart = swap_both p sound g c d differ apart
