-- An object is held along a path exactly where a synchronisation with it stands on the path and no call of it comes
-- after that. The proofs on the computed sets and on worked graphs stand on it, and on `held_is`: what is passed on
-- along all edges, and missing only where some path shows it, is what is held. Both go by induction on the path.
use Rattle.std.proofs.Common.{◌≡◌, ◌≢◌, ℕ, ◌<◌, inl, inr, Bool, true, false, ◌==◌, List, [], ◌∷◌, ◌++◌, refl, sym, ap, ◌∙◌, subst, ◌↔◌}
use Rattle.std.proofs.lemmas.Bool.{cases_eq, eq-eqb, ne_eqb, cases_Bool, true_from_ne_false}
use Rattle.std.specs.List.{AllByRecursion}
use Rattle.qs_program.specs.audit.Limits.{most_handlers}
use Rattle.qs_meaning.specs.audit.Solo.{put}
use Rattle.qs_graph.specs.declared.node.Node.{Node}
use Rattle.qs_graph.specs.declared.node.Node.TheVariants.{Entry, Local, Branch, Sync, Query, Call, Exit}
use Rattle.qs_graph.specs.audit.Names.{may_be_one}
use Rattle.qs_graph.specs.audit.Nodes.{ControlGraph, place_at}
use Rattle.qs_graph.specs.audit.Paths.{HasEdge, IsPath}
use Rattle.qs_syncset.specs.audit.held.Held.{IsCallOf, IsSynced, IsHeld}
use Rattle.qs_syncset.specs.held.Flow.{Holding, without, held_after, held_along, HasPath, IsMissed, AreWitnessed, IsAtEntry, IsPassedOn}

pub put_same : (f : Holding) (h : ℕ) (b : Bool) → put f h b h ≡ b
put_same f h b = let e : (h == h) ≡ true = eq-eqb h h refl in rw e refl

pub put_other : (f : Holding) (k h : ℕ) (b : Bool) → k ≢ h → put f k b h ≡ f h
put_other f k h b ne = let e : (k == h) ≡ false = ne_eqb k h ne in rw e refl

pub without_called : (called : ℕ → Bool) (f : Holding) (h : ℕ) → called h ≡ true → without called f h ≡ false
without_called called f h t = rw t refl

pub without_other : (called : ℕ → Bool) (f : Holding) (h : ℕ) → called h ≡ false → without called f h ≡ f h
without_other called f h t = rw t refl

sync_here : (g : ControlGraph) (h m : ℕ) (before : List ℕ) → (place_at g.nodes m).node ≡ Sync h → IsSynced g h (m ∷ before)
sync_here g h m before e = record { since = []; sync = m; earlier = before; parts = refl; is_sync = e; no_call = tt }

sync_on : (g : ControlGraph) (h m : ℕ) (before : List ℕ) → (IsCallOf g h (place_at g.nodes m).node → ⊥) → IsSynced g h before
    → IsSynced g h (m ∷ before)
sync_on g h m before other s = record {
  since = m ∷ s.since;
  sync = s.sync;
  earlier = s.earlier;
  parts = ap (λ ms. m ∷ ms) s.parts;
  is_sync = s.is_sync;
  no_call = (other, s.no_call);
}

-- one more node of a path
synced_step : (g : ControlGraph) (h m : ℕ) (before : List ℕ) (held : Holding) (v : Node) → (place_at g.nodes m).node ≡ v
    → (held h ≡ true → IsSynced g h before) → held_after g v held h ≡ true → IsSynced g h (m ∷ before)
synced_step g h m before held Entry e synced t = sync_on g h m before (λ c. rw e at c) (synced t)
synced_step g h m before held (Local a) e synced t = sync_on g h m before (λ c. rw e at c) (synced t)
synced_step g h m before held (Branch c) e synced t = sync_on g h m before (λ c. rw e at c) (synced t)
synced_step g h m before held (Sync k) e synced t = elim (cases_eq k h) [
  | inl same ↦ sync_here g h m before (e ∙ ap Sync same)
  | inr other ↦ sync_on g h m before (λ c. rw e at c) (synced (sym (put_other held k h true other) ∙ t))
]
synced_step g h m before held (Query x c) e synced t = sync_on g h m before (λ c. rw e at c) (synced t)
synced_step g h m before held (Call c) e synced t = elim (cases_Bool (may_be_one g c.object h)) [
  | inl same ↦ absurd (let f : false ≡ true = sym (without_called (may_be_one g c.object) held h same) ∙ t in cc)
  | inr other ↦
      sync_on g h m before (λ d. let same : may_be_one g c.object h ≡ true = rw e at d in let f : false ≡ true = sym other ∙ same in cc)
      (synced (sym (without_other (may_be_one g c.object) held h other) ∙ t))
]
synced_step g h m before held Exit e synced t = sync_on g h m before (λ c. rw e at c) (synced t)

-- where h is held along a path, a synchronisation with h stands on it, with no call of h since
pub synced_from : (g : ControlGraph) (h : ℕ) (before : List ℕ) → held_along g before h ≡ true → IsSynced g h before
synced_from g h [] t = absurd (let f : false ≡ true = t in cc)
synced_from g h (m ∷ before) t =
    synced_step g h m before (held_along g before) (place_at g.nodes m).node refl (synced_from g h before) t

put_true : (f : Holding) (k h : ℕ) → f h ≡ true → put f k true h ≡ true
put_true f k h t = elim (cases_eq k h) [
  | inl same ↦ subst (λ n. put f n true h ≡ true) (sym same) (put_same f h true)
  | inr other ↦ put_other f k h true other ∙ t
]

-- a node that is no call of h leaves it held
kept : (g : ControlGraph) (v : Node) (held : Holding) (h : ℕ) → (IsCallOf g h v → ⊥) → held h ≡ true → held_after g v held h ≡ true
kept g Entry held h other t = t
kept g (Local a) held h other t = t
kept g (Branch c) held h other t = t
kept g (Sync k) held h other t = put_true held k h t
kept g (Query x c) held h other t = t
kept g (Call c) held h other t = elim (cases_Bool (may_be_one g c.object h)) [
  | inl same ↦ absurd (other same)
  | inr apart ↦ without_other (may_be_one g c.object) held h apart ∙ t
]
kept g Exit held h other t = t

synced_since : (g : ControlGraph) (h sync : ℕ) (earlier : List ℕ) → (place_at g.nodes sync).node ≡ Sync h
    → (since : List ℕ) → AllByRecursion (λ m. IsCallOf g h (place_at g.nodes m).node → ⊥) since → held_along g (since ++ sync ∷ earlier) h ≡ true
synced_since g h sync earlier e [] none = rw e (put_same (held_along g earlier) h true)
synced_since g h sync earlier e (m ∷ since) none =
    kept g (place_at g.nodes m).node (held_along g (since ++ sync ∷ earlier)) h none.0 (synced_since g h sync earlier e since none.1)

pub synced_along : (g : ControlGraph) (h : ℕ) (before : List ℕ) → IsSynced g h before → held_along g before h ≡ true
synced_along g h before s = rw s.parts (synced_since g h s.sync s.earlier s.is_sync s.since s.no_call)

-- what does not go out of a node that is reached is missed by some path through it
record IsMissedAfter (g : ControlGraph) (m h : ℕ) (v : Node) : Type 0 where
  before : List ℕ
  path : IsPath g.nodes before m
  missed : held_after g v (held_along g before) h ≡ false

missed_on : (g : ControlGraph) (m h : ℕ) (v : Node) → ((held : Holding) → held_after g v held h ≡ held h) → IsMissed g m h
    → IsMissedAfter g m h v
missed_on g m h v same w = record { before = w.before; path = w.path; missed = same (held_along g w.before) ∙ w.missed }

missed_after : (g : ControlGraph) (m h : ℕ) (v : Node) (held : Holding) → HasPath g m → (held h ≡ false → IsMissed g m h)
    → held_after g v held h ≡ false → IsMissedAfter g m h v
missed_after g m h Entry held w miss f = missed_on g m h Entry (λ _. refl) (miss f)
missed_after g m h (Local a) held w miss f = missed_on g m h (Local a) (λ _. refl) (miss f)
missed_after g m h (Branch c) held w miss f = missed_on g m h (Branch c) (λ _. refl) (miss f)
missed_after g m h (Sync k) held w miss f = elim (cases_eq k h) [
  | inl same ↦
      let never : put held h true h ≡ false = subst (λ n. put held n true h ≡ false) same f in
      absurd (let t : true ≡ false = sym (put_same held h true) ∙ never in cc)
  | inr other ↦
      missed_on g m h (Sync k) (λ d. put_other d k h true other) (miss (sym (put_other held k h true other) ∙ f))
]
missed_after g m h (Query x c) held w miss f = missed_on g m h (Query x c) (λ _. refl) (miss f)
missed_after g m h (Call c) held w miss f = elim (cases_Bool (may_be_one g c.object h)) [
  | inl same ↦ record {
    before = w.before;
    path = w.path;
    missed = without_called (may_be_one g c.object) (held_along g w.before) h same;
  }
  | inr other ↦
      missed_on g m h (Call c) (λ d. without_other (may_be_one g c.object) d h other)
      (miss (sym (without_other (may_be_one g c.object) held h other) ∙ f))
]
missed_after g m h Exit held w miss f = missed_on g m h Exit (λ _. refl) (miss f)

-- what a node does keeps "at most as much is held"
pub monotone : (g : ControlGraph) (v : Node) (h : ℕ) (less more : Holding) → (less h ≡ true → more h ≡ true)
    → held_after g v less h ≡ true → held_after g v more h ≡ true
monotone g Entry h less more up t = up t
monotone g (Local a) h less more up t = up t
monotone g (Branch c) h less more up t = up t
monotone g (Sync k) h less more up t = elim (cases_eq k h) [
  | inl same ↦ subst (λ n. put more n true h ≡ true) (sym same) (put_same more h true)
  | inr other ↦ put_other more k h true other ∙ up (sym (put_other less k h true other) ∙ t)
]
monotone g (Query x c) h less more up t = up t
monotone g (Call c) h less more up t = elim (cases_Bool (may_be_one g c.object h)) [
  | inl same ↦ absurd (let f : false ≡ true = sym (without_called (may_be_one g c.object) less h same) ∙ t in cc)
  | inr other ↦
      without_other (may_be_one g c.object) more h other ∙ up (sym (without_other (may_be_one g c.object) less h other) ∙ t)
]
monotone g Exit h less more up t = up t

module _ (g : ControlGraph) (reached : ℕ → Bool) (held : ℕ → Holding) where
  pub reached_past : AreWitnessed g reached held → (m n : ℕ) → HasEdge g.nodes m n → reached m ≡ true → HasPath g n
  reached_past w m n edge r = let x = w.reach m r in record { before = m ∷ x.before; path = (edge, x.path) }

  -- what does not go out of m is missed at each node that m leads to
  pub missed_past : AreWitnessed g reached held → (m n h : ℕ) → HasEdge g.nodes m n → reached m ≡ true → h < most_handlers
      → held_after g (place_at g.nodes m).node (held m) h ≡ false → IsMissed g n h
  missed_past w m n h edge r below f =
      let x = missed_after g m h (place_at g.nodes m).node (held m) (w.reach m r) (w.miss m h below) f in
      record { before = m ∷ x.before; path = (edge, x.path); missed = x.missed }

  -- what is known at a node is so along each path to it
  record IsBelow (before : List ℕ) (n : ℕ) : Type 0 where
    reach : reached n ≡ true
    below : (h : ℕ) → h < most_handlers → held n h ≡ true → held_along g before h ≡ true

  below : IsAtEntry reached held → ((m : ℕ) → reached m ≡ true → IsPassedOn g reached held m)
      → (before : List ℕ) (n : ℕ) → IsPath g.nodes before n → IsBelow before n
  below start closed [] n path = record {
    reach = rw path start.reach;
    below = λ h l t. absurd (let f : false ≡ true = sym (start.none h l) ∙ (rw path at t) in cc);
  }
  below start closed (m ∷ before) n path =
      let earlier = below start closed before m path.1 in
      let come = closed m earlier.reach n path.0 in
      record {
        reach = come.reach;
        below = λ h l t. monotone g (place_at g.nodes m).node h (held m) (held_along g before) (earlier.below h l) (come.below h l t);
      }

  -- where nothing changes any more, what is known to be held is what is held
  pub held_is : AreWitnessed g reached held → IsAtEntry reached held → ((m : ℕ) → reached m ≡ true → IsPassedOn g reached held m)
      → (n h : ℕ) → h < most_handlers → (held n h ≡ true) ↔ IsHeld g n h
  held_is w start closed n h l = (
    λ t before path. synced_from g h before ((below start closed before n path).below h l t),
    λ all. true_from_ne_false (held n h) (λ f.
        let x = w.miss n h l f in
        let t : true ≡ false = sym (synced_along g h x.before (all x.before x.path)) ∙ x.missed in cc),
  )
