-- Each step of a queue keeps its rule: what was received, followed by what the queue holds, is what was sent, and that
-- is good. The functions of `Sender` and `Taker` stand on it, whatever other threads do in between. It goes by cases on
-- what the pass that makes the step may do, and shows again what every other pass knows.
use Rattle.std.proofs.Common.{◌≡◌, ◌≢◌, ℕ, zero, suc, true, false, true≢false, List, [], ◌∷◌, ◌++◌, length, set, sym, refl, ap, ◌∙◌, subst, ⊎_elim, append_assoc, inl, inr}
use mathlib.Core.Option.{some, some-injective, some-ne-none}
use lib.ListN.{get_elem?}
use Rattle.crossbeam_queue.specs.Fifo.{Pushes, Pops, Forks, Merges, Learns}
use Rattle.crossbeam_queue.proofs.Lists.{at_set, at_snoc}
use Rattle.qs_queue.specs.declared.rule.Known.{Known}
use Rattle.qs_queue.specs.Rule.{opening, sending, taking, whole, spent, Fits, Runs, Keeps}

off : {A : Type 0} → false ≡ true → A
off e = absurd (true≢false (sym e))

module _ {T K : Type 0} (good : K → List T → Type 0) (none_good : (key : K) → good key []) (front : (key : K) (xs ys : List T) → good key (xs ++ ys) → good key xs) where
  -- in a list of one
  only : (u v : Known T K) (pass : ℕ) → get_elem? (u ∷ []) pass ≡ some v → (pass ≡ 0) × (u ≡ v)
  only u v zero e = (refl, some-injective u v e)
  only u v (suc pass) e = absurd (some-ne-none v (sym e))

  -- all views fit, once one of them is set
  all_set : (F : ℕ → Known T K → Type 0) (views : List (Known T K)) (pass : ℕ) (w : Known T K) → F pass w → ((j : ℕ) (u : Known T K) → j ≢ pass → get_elem? views j ≡ some u → F j u)
      → (j : ℕ) (u : Known T K) → get_elem? (set views pass w) j ≡ some u → F j u
  all_set F views pass w mine others j u e = ⊎_elim (λ (x : (j ≡ pass) × (w ≡ u)). subst (λ (y : ℕ × Known T K). F y.0 y.1) (λ i. (sym x.0 i, x.1 i)) mine)
      (λ (x : (j ≢ pass) × (get_elem? views j ≡ some u)). others j u x.0 x.1) (at_set views pass j w u e)

  at_end : (l : List (Known T K)) (a b : Known T K) (j : ℕ) → get_elem? l j ≢ some b → get_elem? (l ++ a ∷ []) j ≡ some b → j ≡ length l
  at_end [] a b zero n e = refl
  at_end [] a b (suc j) n e = absurd (some-ne-none b (sym e))
  at_end (x ∷ xs) a b zero n e = absurd (n e)
  at_end (x ∷ xs) a b (suc j) n e = ap suc (at_end xs a b j n e)

  pub begins : (key : K) → Keeps good [] (opening key ∷ [])
  begins key = inl (key, refl, refl)

  -- a pass that no longer opens shows that the queue runs
  running : (items : List T) (views : List (Known T K)) (pass : ℕ) (v : Known T K) → Keeps good items views → get_elem? views pass ≡ some v → v.opens ≡ false → Runs good items views
  running items views pass v keeps at shut =
      ⊎_elim (λ (x : (key : K) × (views ≡ opening key ∷ []) × (items ≡ [])). off (sym shut ∙ sym (ap (λ (u : Known T K). u.opens) (only (opening x.0) v pass (ap (λ l. get_elem? l pass) (sym x.1) ∙ at)).1)))
      (λ (r : Runs good items views). r) keeps

  -- a pass that opens is the only one, and the queue is empty
  opened : (items : List T) (views : List (Known T K)) (pass : ℕ) (v : Known T K) → Keeps good items views → get_elem? views pass ≡ some v → v.opens ≡ true → (key : K) × (views ≡ opening key ∷ []) × (items ≡ []) × (pass ≡ 0)
  opened items views pass v keeps at is =
      ⊎_elim (λ (x : (key : K) × (views ≡ opening key ∷ []) × (items ≡ [])). (x.0, x.1, x.2, (only (opening x.0) v pass (ap (λ l. get_elem? l pass) (sym x.1) ∙ at)).0))
      (λ (r : Runs good items views). off (sym ((r.7 pass v at).0) ∙ is)) keeps

  pub sends : (n pass : ℕ) (v : Known T K) (x : T) → v.opens ≡ false → v.sends ≡ true → v.takes ≡ false → good v.key (v.sent ++ x ∷ []) → Pushes (Keeps good) n pass v x (λ w. w ≡ sending v.key (v.sent ++ x ∷ []))
  sends n pass v x shut may none follow items views room keeps at =
      let r = running items views pass v keeps at shut in
      let mine = (r.7 pass v at).1 may in
      let w : Known T K = sending v.key (v.sent ++ x ∷ []) in
      let sent = r.3 ++ x ∷ [] in
      let form = subst (λ (y : K × List T). good y.0 (y.1 ++ x ∷ [])) (λ i. (mine.2 i, mine.1 i)) follow in (
        w,
        inr (
          r.0,
          r.1,
          r.2,
          sent,
          r.4,
          ap (λ l. l ++ x ∷ []) r.5 ∙ append_assoc r.4 items (x ∷ []),
          form,
          all_set (Fits r.0 r.1 r.2 sent r.4) views pass w (refl, (λ _. (mine.0, ap (λ l. l ++ x ∷ []) mine.1, mine.2)), λ t. off t)
              (λ j u other e. let f = r.7 j u e in (f.0, (λ s. absurd (other ((f.1 s).0 ∙ sym mine.0))), f.2)),
        ),
        refl,
      )

  pub takes : (pass : ℕ) (v : Known T K) → v.opens ≡ false → v.sends ≡ false → v.takes ≡ true → Pops (Keeps good) pass v (λ x w. (w ≡ taking v.key (v.received ++ x ∷ [])) × good v.key (v.received ++ x ∷ []))
  takes pass v shut none may x items views keeps at =
      let r = running (x ∷ items) views pass v keeps at shut in
      let mine = (r.7 pass v at).2 may in
      let w : Known T K = taking v.key (v.received ++ x ∷ []) in
      let received = r.4 ++ x ∷ [] in
      let is : r.3 ≡ received ++ items = r.5 ∙ sym (append_assoc r.4 (x ∷ []) items) in
      let begun : good r.0 received = front r.0 received items (subst (good r.0) is r.6) in (
        w,
        inr (
          r.0,
          r.1,
          r.2,
          r.3,
          received,
          is,
          r.6,
          all_set (Fits r.0 r.1 r.2 r.3 received) views pass w (refl, (λ t. off t), λ _. (mine.0, ap (λ l. l ++ x ∷ []) mine.1, mine.2))
              (λ j u other e. let f = r.7 j u e in (f.0, f.1, λ s. absurd (other ((f.2 s).0 ∙ sym mine.0)))),
        ),
        (refl, subst (λ (y : K × List T). good y.0 (y.1 ++ x ∷ [])) (λ i. (sym mine.2 i, sym mine.1 i)) begun),
      )

  pub forks : (pass : ℕ) (v : Known T K) → v.opens ≡ false → v.sends ≡ true → v.takes ≡ true → Forks (Keeps good) pass v (sending v.key v.sent) (taking v.key v.received)
  forks pass v shut a b items views keeps at =
      let h = running items views pass v keeps at shut in
      let mine = h.7 pass v at in
      let l : Known T K = sending v.key v.sent in
      let r : Known T K = taking v.key v.received in
      let vs : List (Known T K) = set views pass l in
      let Old : ℕ → Known T K → Type 0 = λ j u. (u.opens ≡ false) × (u.sends ≡ true → (j ≡ h.1) × (u.sent ≡ h.3) × (u.key ≡ h.0)) × (u.takes ≢ true) in
      let old : (j : ℕ) (u : Known T K) → get_elem? vs j ≡ some u → Old j u =
      all_set Old views pass l (refl, (λ _. mine.1 a), λ p. off p) (λ j u other e. let f = h.7 j u e in (f.0, f.1, λ p. other ((f.2 p).0 ∙ sym (mine.2 b).0))) in
      inr (
        h.0,
        h.1,
        length vs,
        h.3,
        h.4,
        h.5,
        h.6,
        λ j u e. ⊎_elim (λ x. let o = old j u x in (o.0, o.1, λ p. absurd (o.2 p)))
            (λ (is : r ≡ u).
            subst (λ (y : Known T K). Fits h.0 h.1 (length vs) h.3 h.4 j y) is
            (refl, (λ t. off t), λ _. (at_end vs r u j (λ x. (old j u x).2 (ap (λ (y : Known T K). y.takes) (sym is))) e, (mine.2 b).1, (mine.2 b).2)))
            (at_snoc vs r u j e),
      )

  pub merges : (key : K) (pass : ℕ) (v : Known T K) (other : ℕ) (u : Known T K) → v.opens ≡ false → v.sends ≡ true → u.takes ≡ true → Merges (Keeps good) pass v other u (whole v.key v.sent u.received) (spent key)
  merges key pass v other u shut a b items views keeps at two at' =
      let h = running items views pass v keeps at shut in
      let w : Known T K = whole v.key v.sent u.received in
      let mine = h.7 pass v at in
      let vs : List (Known T K) = set views pass w in
      let was : get_elem? views other ≡ some u = ⊎_elim (λ x. absurd (two x.0)) (λ x. x.1) (at_set views pass other w u at') in
      let theirs = (h.7 other u was).2 b in
      let Now : ℕ → Known T K → Type 0 = λ j y. j ≢ other → Fits h.0 h.1 pass h.3 h.4 j y in
      let now : (j : ℕ) (y : Known T K) → get_elem? vs j ≡ some y → Now j y =
      all_set Now views pass w (λ _. (refl, (λ _. mine.1 a), λ _. (refl, theirs.1, (mine.1 a).2)))
      (λ j y _ e apart. let f = h.7 j y e in (f.0, f.1, λ p. absurd (apart ((f.2 p).0 ∙ sym theirs.0)))) in
      inr (h.0, h.1, pass, h.3, h.4, h.5, h.6, all_set (Fits h.0 h.1 pass h.3 h.4) vs other (spent key) (refl, (λ p. off p), λ p. off p) (λ j y apart e. now j y e apart))

  pub agrees : (pass : ℕ) (v : Known T K) → v.opens ≡ false → v.sends ≡ true → v.takes ≡ true → Learns (Keeps good) pass v (λ items. (v.sent ≡ v.received ++ items) × good v.key v.sent)
  agrees pass v shut a b items views keeps at =
      let h = running items views pass v keeps at shut in
      let s = (h.7 pass v at).1 a in
      let t = (h.7 pass v at).2 b in
      (s.1 ∙ h.5 ∙ ap (λ l. l ++ items) (sym t.1), subst (λ (y : K × List T). good y.0 y.1) (λ i. (sym s.2 i, sym s.1 i)) h.6)

  pub sends_full : (pass : ℕ) (v : Known T K) → v.opens ≡ false → v.sends ≡ true → Learns (Keeps good) pass v (λ items. (received : List T) × (v.sent ≡ received ++ items))
  sends_full pass v shut a items views keeps at =
      let h = running items views pass v keeps at shut in
      (h.4, ((h.7 pass v at).1 a).1 ∙ h.5)

  pub takes_none : (pass : ℕ) (v : Known T K) → v.opens ≡ false → v.takes ≡ true → Learns (Keeps good) pass v (λ items. good v.key (v.received ++ items))
  takes_none pass v shut b items views keeps at =
      let h = running items views pass v keeps at shut in
      let t = (h.7 pass v at).2 b in
      subst (λ (y : K × List T). good y.0 (y.1 ++ items)) (λ i. (sym t.2 i, sym t.1 i)) (subst (good h.0) h.5 h.6)

  -- the two ends of a new queue
  pair_fits : (key : K) (pass : ℕ) (v : Known T K) → get_elem? (sending key [] ∷ taking key [] ∷ []) pass ≡ some v → Fits key 0 1 [] [] pass v
  pair_fits key zero v e = subst (Fits key 0 1 [] [] 0) (some-injective (sending key []) v e) (refl, (λ _. (refl, refl, refl)), λ t. off t)
  pair_fits key (suc pass) v e = let o = only (taking key []) v pass e in subst (λ (y : ℕ × Known T K). Fits key 0 1 [] [] y.0 y.1) (λ i. (ap suc (sym o.0) i, o.1 i)) (refl, (λ t. off t), λ _. (refl, refl, refl))

  pub opens : (key : K) (pass : ℕ) (v : Known T K) → v.opens ≡ true → Forks (Keeps good) pass v (sending key []) (taking key [])
  opens key pass v is items views keeps at =
      let o = opened items views pass v keeps at is in
      let l : Known T K = sending key [] in
      let r : Known T K = taking key [] in
      let two : set views pass l ++ r ∷ [] ≡ l ∷ r ∷ [] = λ i. set (o.1 i) (o.3 i) l ++ r ∷ [] in
      inr (key, 0, 1, [], [], sym o.2, none_good key, λ j u e. pair_fits key j u (ap (λ vs. get_elem? vs j) (sym two) ∙ e))
