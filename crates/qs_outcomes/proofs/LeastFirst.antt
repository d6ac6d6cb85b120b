-- The search notes each configuration first by its least order. Each followed order leads to what was seen or goes
-- through a standing on the stack, and the top of the stack is before all below it: so an order before the top leads to
-- what was seen. Where the key of the top was not seen, no order before its own leads to what becomes it. Where it was
-- seen, or its next block leads to what was seen, that was noted by an order before it, and an order that goes on from
-- there instead, as the change of what goes on from the top, is before the top, too: so nothing is lost where it is
-- passed over.
use Rattle.std.proofs.Common.{◌≡◌, ◌≤◌, ◌+◌, ℕ, List, [], ◌∷◌, ◌++◌, length, sym, ap, ◌∙◌, subst, arith, ◌⊎◌, inl, inr, append_assoc, append-nil, length-append}
use Rattle.qs_outcomes.proofs.Common.{alike_long, AllByRecursion, AreClasses, Becomes, becomes_across, becomes_same, becomes_then, changed, changed_order, Classes, Configuration, configuration-append, configuration-snoc, configuration_after, configuration_from, configuration_in, each_back, each_front, each_join, each_map, each_snoc, first_configuration, followed_back, followed_changed, followed_onward, follows_left, GoesOnUpTo, has_back, has_either, has_front, has_map, has_only, has_place, has_some, HasOne, IsFollowedAfter, IsFollowedFrom, IsKey, IsLegal, IsSound, key_kept, key_tells, leads_from, legal-front, legal-join, legal-rest, legal_from, LegalFrom, one_block_on, only_reduced, pairs_front, pairs_join, pairs_last, ProgramShape, RowShape, StandingShape, Ticket}
use Rattle.qs_outcomes.specs.LeastOrders.{IsAheadOf, IsBefore, IsLeastFirst, IsLeastUpTo, IsLongerBy, IsNotedAhead, IsSeenAfter}
use Rattle.qs_outcomes.specs.Reached.{IsFollowedTo}
use Rattle.qs_outcomes.specs.Search.{AreNextFrom, IsOn}
use Rattle.qs_outcomes.proofs.Before.{before_both, before_longer, before_onward, not_before}

abbrev pub GoesThrough : List Ticket → StandingShape → Type 0
GoesThrough order s = (rest : List Ticket) × IsLongerBy s.order rest order

abbrev pub LeadsToSeen : ProgramShape → Classes → List Ticket → List RowShape → List Ticket → Type 0
LeadsToSeen p k front rows order = (s : StandingShape) × IsSeenAfter p k front rows order s

-- what was picked of those of which a row is the key
pub picked_key : (p : ProgramShape) (k : Classes) (Q : StandingShape → Type 0) (rows : List RowShape)
    → HasOne (λ r. (n : StandingShape) × Q n × IsKey p k n r) rows → (n : StandingShape) × Q n × HasOne (IsKey p k n) rows
picked_key p k Q [] h = absurd h
picked_key p k Q (r ∷ rows) (inl (n, q, key)) = (n, q, inl key)
picked_key p k Q (r ∷ rows) (inr h) = let later = picked_key p k Q rows h in (later.0, later.1, inr later.2)

module _ {p : ProgramShape} {k : Classes} {front : List Ticket} (sound : IsSound p) (are : AreClasses p k) {rows : List RowShape}
    (stack : List StandingShape) {found : List StandingShape} (s : StandingShape) (to : IsFollowedTo p k only_reduced front s)
    (first : IsLeastFirst p k front rows (stack ++ s ∷ []) found) where
  abbrev Follows : List Ticket → Type 0
  Follows order = IsFollowedAfter p k only_reduced front order

  below : AllByRecursion (λ u. IsBefore s.order u.order) stack
  below = pairs_last (λ t u. IsBefore u.order t.order) stack s first.stack_sorted

  pub seen_before : (order : List Ticket) → IsLegal p order → Follows order → IsBefore order s.order → LeadsToSeen p k front rows order
  seen_before order legal followed before = elim (first.covered order legal followed) [
    | inl seen ↦ seen
    | inr on ↦ absurd (elim (has_either (GoesThrough order) stack (s ∷ []) on) [
      | inl under ↦ has_some (λ u (w : GoesThrough order u) (b : IsBefore s.order u.order). behind u w (before_both order s.order u.order before b)) stack under below
      | inr top ↦ behind s (has_only (GoesThrough order) s top) before
    ])
  ]
    where
      behind : (u : StandingShape) → GoesThrough order u → IsBefore order u.order → ⊥
      behind u w b = not_before u.order w.0 (subst (λ ts. IsBefore ts u.order) w.1 b)

  -- no followed order before the top leads to what becomes it
  least_top : (HasOne (IsKey p k s) rows → ⊥) → IsLeastUpTo p k front s
  least_top new order legal followed becomes before =
      let seen = seen_before order legal followed before in
      new (has_map
      (λ r. key_kept p k seen.0 s r
      (becomes_across k (configuration_after p order) (configuration_in seen.0) (configuration_in s) seen.1.there becomes))
      rows seen.1.key)

  -- what goes on from where a standing was noted by an order before the top
  through : (v : StandingShape) → IsFollowedTo p k only_reduced front v → IsBefore v.order s.order → (order rest : List Ticket)
      → Becomes k (configuration_after p order) (configuration_in v) → IsLegal p (order ++ rest) → Follows order → Follows (order ++ rest)
      → LeadsToSeen p k front rows (order ++ rest)
  through v at before order rest (x, is, e) legal followed whole =
      let turned = changed_order x rest in
      let there : configuration_after p v.order ≡ changed x (configuration_after p order) = sym at.standing.stands ∙ e in
      let legal_on : LegalFrom p (configuration_after p v.order).begun turned =
      subst (λ (g : Configuration). LegalFrom p g.begun turned) (sym there)
      (legal_from p k are x is (configuration_after p order).begun rest (legal-rest p (first_configuration p) order rest legal)) in
      let followed_on : IsFollowedFrom p k only_reduced (configuration_after p v.order) turned =
      subst (λ g. IsFollowedFrom p k only_reduced g turned) (sym there)
      (followed_changed p k are x is only_reduced (configuration_after p order) rest (followed_back p k only_reduced front order rest followed whole)) in
      let seen = seen_before (v.order ++ turned) (legal-join p (first_configuration p) v.order turned at.standing.legal legal_on)
      (followed_onward p k only_reduced front v.order turned at.followed followed_on) (before_onward v.order s.order turned before) in
      let leads : configuration_after p (v.order ++ turned) ≡ changed x (configuration_after p (order ++ rest)) =
      configuration-append p (first_configuration p) v.order turned ∙ ap (λ g. configuration_from p g turned) there
      ∙ leads_from p k are x is (configuration_after p order) rest
      ∙ ap (changed x) (sym (configuration-append p (first_configuration p) order rest)) in (
        seen.0,
        record {
          to = seen.1.to;
          there = becomes_then k (configuration_after p (order ++ rest)) (configuration_after p (v.order ++ turned)) (configuration_in seen.0)
              (x, is, leads) seen.1.there;
          key = seen.1.key;
        },
      )

  -- on the way to the top nothing was noted of where the top leads, since orders to one configuration are equally long
  noted_before : (v : StandingShape) → IsFollowedTo p k only_reduced front v → IsAheadOf v s → (more : List Ticket) → IsLegal p (s.order ++ more)
      → Becomes k (configuration_after p (s.order ++ more)) (configuration_in v) → IsBefore v.order s.order
  noted_before v at (inl before) more legal becomes = before
  noted_before v at (inr (u, rest, longer)) more legal becomes =
      let long : length (s.order ++ more) ≡ length v.order =
      alike_long p k are (s.order ++ more) v.order legal at.standing.legal
      (subst (Becomes k (configuration_after p (s.order ++ more))) at.standing.stands becomes) in
      let one : length (s.order ++ more) ≡ length s.order + length more = length-append s.order more in
      let two : length s.order ≡ length v.order + length (u ∷ rest) = ap length longer ∙ length-append v.order (u ∷ rest) in
      absurd (omega (arith, long, one, two))

  -- where an order leads from the top to a standing whose key was seen, all that goes on from there leads to what was
  -- seen
  seen_onward : (n : StandingShape) → HasOne (IsKey p k n) rows → (more rest : List Ticket) → Becomes k (configuration_after p (s.order ++ more)) (configuration_in n)
      → Follows (s.order ++ more) → (order : List Ticket) → order ≡ (s.order ++ more) ++ rest → IsLegal p order → Follows order
      → LeadsToSeen p k front rows order
  seen_onward n seen more rest there followed order e legal whole =
      let legal_whole : IsLegal p ((s.order ++ more) ++ rest) = subst (IsLegal p) e legal in
      subst (LeadsToSeen p k front rows) (sym e)
      (has_some
      (λ r (key : IsKey p k n r) (w : (v : StandingShape) × IsNotedAhead p k front (stack ++ s ∷ []) r v).
      let becomes : Becomes k (configuration_after p (s.order ++ more)) (configuration_in w.0) =
      becomes_then k (configuration_after p (s.order ++ more)) (configuration_in n) (configuration_in w.0) there (key_tells p k sound n w.0 r key w.1.key) in
      through w.0 w.1.to
      (noted_before w.0 w.1.to (each_back (IsAheadOf w.0) stack (s ∷ []) w.1.ahead).0 more
      (legal-front p (first_configuration p) (s.order ++ more) rest legal_whole) becomes)
      (s.order ++ more) rest becomes legal_whole followed (subst Follows e whole))
      rows seen first.noted)

  pub first_skips : HasOne (IsKey p k s) rows → IsLeastFirst p k front rows stack found
  first_skips seen = record {
    stack_sorted = pairs_front (λ t u. IsBefore u.order t.order) stack (s ∷ []) first.stack_sorted;
    noted = each_map (λ r (w : (v : StandingShape) × IsNotedAhead p k front (stack ++ s ∷ []) r v).
        (w.0, record { to = w.1.to; key = w.1.key; ahead = each_front (IsAheadOf w.0) stack (s ∷ []) w.1.ahead })) rows first.noted;
    covered = λ order legal followed. elim (first.covered order legal followed) [
      | inl known ↦ inl known
      | inr on ↦ elim (has_either (GoesThrough order) stack (s ∷ []) on) [
        | inl under ↦ inr under
        | inr top ↦ inl (again order legal followed (has_only (GoesThrough order) s top))
      ]
    ];
    least = first.least;
    sorted = first.sorted;
    before = each_map (λ x. each_front (λ u. IsBefore x.order u.order) stack (s ∷ [])) found first.before;
  }
    where
      again : (order : List Ticket) → IsLegal p order → Follows order → GoesThrough order s → LeadsToSeen p k front rows order
      again order legal followed (rest, longer) =
          let none : s.order ≡ s.order ++ [] = sym (append-nil s.order) in
          seen_onward s seen [] rest (becomes_same k (configuration_after p (s.order ++ [])) (configuration_in s) (to.standing.stands ∙ ap (configuration_after p) none))
          (subst Follows none to.followed) order (longer ∙ ap (λ ts. ts ++ rest) none) legal followed

  -- the key of the top, and what was noted with it
  module _ (q : RowShape) (key : IsKey p k s q) (added : List StandingShape) (next : AreNextFrom p k front (rows ++ q ∷ []) s 0 added) where
    abbrev ticket : ℕ → Ticket
    ticket c = record { client = c; index = (configuration_in s).begun c }

    abbrev Next : StandingShape → Type 0
    Next n = (c : ℕ) × (0 ≤ c) × IsOn p k front s c n

    ahead_next : (v n : StandingShape) → IsAheadOf v s → Next n → IsAheadOf v n
    ahead_next v n (inl before) on = inl (subst (IsBefore v.order) (sym on.2.on.order) (before_longer v.order s.order (ticket on.0 ∷ []) before))
    ahead_next v n (inr (u, rest, longer)) on =
        inr (u, rest ++ ticket on.0 ∷ [], on.2.on.order ∙ (ap (λ ts. ts ++ ticket on.0 ∷ []) longer ∙ append_assoc v.order (u ∷ rest) (ticket on.0 ∷ [])))

    known : (order : List Ticket) → LeadsToSeen p k front rows order → LeadsToSeen p k front (rows ++ q ∷ []) order
    known order (t, seen) = (t, record { to = seen.to; there = seen.there; key = has_front (IsKey p k t) rows (q ∷ []) seen.key })

    -- an order that goes through the top ends there, or goes on with the next block of one who goes on
    from_top : (order : List Ticket) → IsLegal p order → Follows order → GoesThrough order s
        → LeadsToSeen p k front (rows ++ q ∷ []) order ⊎ HasOne (GoesThrough order) (stack ++ added)
    from_top order legal followed ([], longer) =
        inl (
          s,
          record {
            to = to;
            there = becomes_same k (configuration_after p order) (configuration_in s) (to.standing.stands ∙ ap (configuration_after p) (sym (longer ∙ append-nil s.order)));
            key = has_back (IsKey p k s) rows (q ∷ []) (inl key);
          },
        )
    from_top order legal followed (t ∷ rest, longer) =
        let legal_on : LegalFrom p (configuration_after p s.order).begun (t ∷ rest) = legal-rest p (first_configuration p) s.order (t ∷ rest) (subst (IsLegal p) longer legal) in
        let followed_on : IsFollowedFrom p k only_reduced (configuration_after p s.order) (t ∷ rest) =
        followed_back p k only_reduced front s.order (t ∷ rest) to.followed (subst Follows longer followed) in
        let goes : GoesOnUpTo p k (configuration_in s) t.client = subst (λ g. GoesOnUpTo p k g t.client) (sym to.standing.stands) followed_on.0 in
        let same : ◌≡◌ {A = Ticket} t (ticket t.client) = λ i. record { client = t.client; index = (legal_on.0 ∙ ap (λ (g : Configuration). g.begun t.client) (sym to.standing.stands)) i } in
        let parts : order ≡ (s.order ++ t ∷ []) ++ rest = longer ∙ sym (append_assoc s.order (t ∷ []) rest) in
        elim (next.each t.client (omega arith) (has_place p t.client ((configuration_in s).begun t.client) (follows_left p k are only_reduced (configuration_in s) t.client goes)) goes) [
          | inl pushed ↦ inr (has_back (GoesThrough order) stack added (has_map (λ n (on : IsOn p k front s t.client n).
              (rest, parts ∙ ap (λ ts. ts ++ rest) (ap (λ u. s.order ++ u ∷ []) same ∙ sym on.on.order))) added pushed))
          | inr seen ↦ inl (elim (has_either (λ r. (n : StandingShape) × IsOn p k front s t.client n × IsKey p k n r) rows (q ∷ []) seen) [
            | inl old ↦ known order (seen_there t rest followed_on.0 (picked_key p k (IsOn p k front s t.client) rows old) order parts legal followed)
            | inr here ↦ absurd (not_here t (has_only (λ r. (n : StandingShape) × IsOn p k front s t.client n × IsKey p k n r) q here))
          ])
        ]
      where
        -- the order to where the next block leads
        there_on : (t : Ticket) (n : StandingShape) → IsOn p k front s t.client n → configuration_in n ≡ configuration_after p (s.order ++ t ∷ [])
        there_on t n on = on.on.next ∙ (ap (one_block_on p t.client) to.standing.stands ∙ sym (configuration-snoc p (first_configuration p) s.order t))

        seen_there : (t : Ticket) (rest : List Ticket) → GoesOnUpTo p k (configuration_after p s.order) t.client
            → (n : StandingShape) × IsOn p k front s t.client n × HasOne (IsKey p k n) rows
            → (order : List Ticket) → order ≡ (s.order ++ t ∷ []) ++ rest → IsLegal p order → Follows order → LeadsToSeen p k front rows order
        seen_there t rest goes (n, on, seen) =
            seen_onward n seen (t ∷ []) rest (becomes_same k (configuration_after p (s.order ++ t ∷ [])) (configuration_in n) (there_on t n on))
            (followed_onward p k only_reduced front s.order (t ∷ []) to.followed (goes, tt))

        not_here : (t : Ticket) → (n : StandingShape) × IsOn p k front s t.client n × IsKey p k n q → ⊥
        not_here t (n, on, other) =
            let long : length s.order ≡ length n.order =
            alike_long p k are s.order n.order to.standing.legal on.on.standing.legal
            (subst (λ g. Becomes k g (configuration_after p n.order)) to.standing.stands
            (subst (Becomes k (configuration_in s)) on.on.standing.stands (key_tells p k sound s n q key other))) in
            let one : length n.order ≡ length (s.order ++ ticket t.client ∷ []) = ap length on.on.order in
            let two : length (s.order ++ ticket t.client ∷ []) ≡ length s.order + length (ticket t.client ∷ []) = length-append s.order (ticket t.client ∷ []) in
            omega (arith, long, one, two)

    pub first_pushes : IsLeastFirst p k front (rows ++ q ∷ []) (stack ++ added) found
    first_pushes = record {
      stack_sorted = pairs_join (λ t u. IsBefore u.order t.order) stack added (pairs_front (λ t u. IsBefore u.order t.order) stack (s ∷ []) first.stack_sorted) next.sorted
          (each_map (λ u (b : IsBefore s.order u.order).
          each_map (λ n (on : Next n). subst (λ ts. IsBefore ts u.order) (sym on.2.on.order) (before_onward s.order u.order (ticket on.0 ∷ []) b)) added next.next) stack below);
      noted = each_snoc (λ r. (v : StandingShape) × IsNotedAhead p k front (stack ++ added) r v) rows q
          (each_map (λ r (w : (v : StandingShape) × IsNotedAhead p k front (stack ++ s ∷ []) r v). (
            w.0,
            record {
              to = w.1.to;
              key = w.1.key;
              ahead = each_join (IsAheadOf w.0) stack added (each_front (IsAheadOf w.0) stack (s ∷ []) w.1.ahead)
                  (each_map (λ n. ahead_next w.0 n (each_back (IsAheadOf w.0) stack (s ∷ []) w.1.ahead).0) added next.next);
            },
          )) rows first.noted) (
            s,
            record {
              to = to;
              key = key;
              ahead = each_join (IsAheadOf s) stack added (each_map (λ u (b : IsBefore s.order u.order). inl b) stack below)
                  (each_map (λ n (on : Next n). inr (ticket on.0, [], on.2.on.order)) added next.next);
            },
          );
      covered = λ order legal followed. elim (first.covered order legal followed) [
        | inl seen ↦ inl (known order seen)
        | inr on ↦ elim (has_either (GoesThrough order) stack (s ∷ []) on) [
          | inl under ↦ inr (has_front (GoesThrough order) stack added under)
          | inr top ↦ from_top order legal followed (has_only (GoesThrough order) s top)
        ]
      ];
      least = first.least;
      sorted = first.sorted;
      before = each_map (λ x (h : AllByRecursion (λ u. IsBefore x.order u.order) (stack ++ s ∷ [])).
          each_join (λ u. IsBefore x.order u.order) stack added (each_front (λ u. IsBefore x.order u.order) stack (s ∷ []) h)
          (each_map (λ n (on : Next n). subst (IsBefore x.order) (sym on.2.on.order)
          (before_longer x.order s.order (ticket on.0 ∷ []) (each_back (λ u. IsBefore x.order u.order) stack (s ∷ []) h).0)) added next.next)) found first.before;
    }

  -- where no block is left the top is found, behind all that was found before
  pub first_ends : (q : RowShape) → IsKey p k s q → (HasOne (IsKey p k s) rows → ⊥) → AreNextFrom p k front (rows ++ q ∷ []) s 0 []
      → IsLeastFirst p k front (rows ++ q ∷ []) (stack ++ []) (found ++ s ∷ [])
  first_ends q key new next =
      let pushed = first_pushes q key [] next in
      record {
        stack_sorted = pushed.stack_sorted;
        noted = pushed.noted;
        covered = pushed.covered;
        least = each_snoc (IsLeastUpTo p k front) found s first.least (least_top new);
        sorted = pairs_join (λ x y. IsBefore x.order y.order) found (s ∷ []) first.sorted (tt, tt)
            (each_map (λ x (h : AllByRecursion (λ u. IsBefore x.order u.order) (stack ++ s ∷ [])). ((each_back (λ u. IsBefore x.order u.order) stack (s ∷ []) h).0, tt)) found first.before);
        before = each_snoc (λ x. AllByRecursion (λ u. IsBefore x.order u.order) (stack ++ [])) found s pushed.before
            (subst (AllByRecursion (λ u. IsBefore s.order u.order)) (sym (append-nil stack)) below);
      }
