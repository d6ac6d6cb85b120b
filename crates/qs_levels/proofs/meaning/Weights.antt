-- A block more of one client adds what its blocks count for to the sum over all clients. So a configuration is in the
-- share of the lead by which it is reached, and orders from one configuration to another are equally long; and counts
-- that are no larger are no more in all. Each goes by induction on the number of clients.
use Rattle.qs_levels.proofs.Common.{◌≡◌, ◌<◌, ◌≤◌, ◌+◌, ◌*◌, ℕ, zero, suc, subst, arith, inl, inr, ap, cases_eq, Counts, eqb_apart, put, weighted}
use Rattle.qs_meaning.proofs.TreeWalks.{put_here, put_there}

module _ (w : ℕ → ℕ) where
  weighted_same : (n : ℕ) (f g : Counts) → ((i : ℕ) → i < n → f i ≡ g i) → weighted w n f ≡ weighted w n g
  weighted_same zero f g each = omega arith
  weighted_same (suc n) f g each =
      let before = weighted_same n f g (λ i less. each i (omega (arith, less))) in
      let here : f n * w n ≡ g n * w n = ap (λ k. k * w n) (each n (omega arith)) in
      omega (arith, before, here)

  pub weighted_more : (n c : ℕ) (f : Counts) → c < n → weighted w n (put f c (suc (f c))) ≡ weighted w n f + w c
  weighted_more zero c f less = absurd (omega (arith, less))
  weighted_more (suc n) c f less = elim (cases_eq c n) [
    | inl same ↦
        let before = weighted_same n (put f c (suc (f c))) f (λ i under. put_there f c (suc (f c)) i (eqb_apart c i (λ e. omega (arith, same, under, e)))) in
        let here : put f c (suc (f c)) n * w n ≡ suc (f n) * w n = ap (λ k. k * w n) (subst (λ m. put f c (suc (f c)) m ≡ suc (f m)) same (put_here f c (suc (f c)))) in
        let now : w n ≡ w c = ap w (subst (λ m. m ≡ c) same (λ i. c)) in
        omega (arith, before, here, now)
    | inr other ↦
        let before = weighted_more n c f (let o : c ≡ n → ⊥ = other in omega (arith, less, o)) in
        let here : put f c (suc (f c)) n * w n ≡ f n * w n = ap (λ k. k * w n) (put_there f c (suc (f c)) n (eqb_apart c n other)) in
        omega (arith, before, here)
  ]

-- the blocks that the clients below n have begun
abbrev pub sum_below : ℕ → Counts → ℕ
sum_below n begun = weighted (λ _. 1) n begun

pub sum_more : (n c : ℕ) (f : Counts) → c < n → sum_below n (put f c (suc (f c))) ≡ sum_below n f + 1
sum_more n c f less = weighted_more (λ _. 1) n c f less

pub sum_within : (n : ℕ) (f g : Counts) → ((i : ℕ) → i < n → f i ≤ g i) → sum_below n f ≤ sum_below n g
sum_within zero f g each = omega arith
sum_within (suc n) f g each =
    let before = sum_within n f g (λ i less. each i (omega (arith, less))) in
    let here = each n (omega arith) in
    omega (arith, before, here)
