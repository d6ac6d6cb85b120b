-- How a chart is drawn. Its places grow at the end, so what a lead says of two places stays true; each row stands for
-- one place, and equal rows are of equal configurations. Once each place has its leads, every reduced order leads along
-- them from place to place.
use Rattle.qs_dot.proofs.Common.{◌≡◌, ◌<◌, ◌≤◌, ◌+◌, ℕ, zero, suc, Bool, true, false, Some, List, [], ◌∷◌, ◌++◌, length, get_or, map, slice_get, refl, sym, ap, ◌∙◌, subst, arith, ◌⊎◌, inl, inr}
use Rattle.qs_dot.proofs.Common.{⊎_elim, append-nil, length-append, AllByRecursion, map-append, ProgramShape, IsSound, Configuration, configuration_after, configuration_from, first_configuration}
use Rattle.qs_dot.proofs.Common.{one_block_on, each_map, each_snoc, Lead, AreCharted, AreLeads, AreLeadsUpTo, AreMore, ArePlaces, IsBehind, IsLead, IsLeadOf, IsPlaced, IsRowPlaced, IsSooner}
use Rattle.qs_dot.proofs.Common.{HasPlaceFor, HasOne, NoTwo, HasMoreThanAfter, rows_in, shape_of, IsInserted, GoesOn, IsStanding, RowShape, StandingShape, configuration_in, row_of, same, tells}
use Rattle.qs_dot.proofs.Common.{has_back, has_front, has_some, pairs_join, two_snoc, below_or_past, goes_left, in_program, rules}
use Rattle.qs_objects.specs.declared.held.Ticket.{Ticket}
use Rattle.qs_meaning.specs.Reduced.{IsReducedFrom, goes_on}
use Rattle.qs_meaning.proofs.Orders.{configuration-append}
use Rattle.qs_standings.specs.declared.rows.Row.{Row}
use Rattle.qs_standings.proofs.RowSteps.{got}
use Rattle.qs_standings.proofs.RowTells.{row_tells, same_configurations}

got_of_map : {X Y : Type 0} (f : X → Y) (xs : List X) (i : ℕ) (y : Y) → slice_get (map f xs) i ≡ Some y → (x : X) × (slice_get xs i ≡ Some x) × (f x ≡ y)
got_of_map f [] i y e = absurd (cc)
got_of_map f (x ∷ xs) zero y e = (x, refl, cc)
got_of_map f (x ∷ xs) (suc i) y e = got_of_map f xs i y e

map_got : {X Y : Type 0} (f : X → Y) (xs : List X) (i : ℕ) (x : X) → slice_get xs i ≡ Some x → slice_get (map f xs) i ≡ Some (f x)
map_got f [] i x e = absurd (cc)
map_got f (y ∷ ys) zero x e = cc
map_got f (y ∷ ys) (suc i) x e = map_got f ys i x e

pub each_got : {X : Type 0} (P : X → Type 0) (xs : List X) (i : ℕ) (x : X) → slice_get xs i ≡ Some x → AllByRecursion P xs → P x
each_got P [] i x e all = absurd (cc)
each_got P (y ∷ ys) zero x e all = subst P (let is : y ≡ x = cc in is) all.0
each_got P (y ∷ ys) (suc i) x e all = each_got P ys i x e all.1

pub got_more : {X : Type 0} (xs ys : List X) (i : ℕ) (x : X) → slice_get xs i ≡ Some x → slice_get (xs ++ ys) i ≡ Some x
got_more [] ys i x e = absurd (cc)
got_more (z ∷ zs) ys zero x e = e
got_more (z ∷ zs) ys (suc i) x e = got_more zs ys i x e

got_less : {X : Type 0} (xs ys : List X) (i : ℕ) (x : X) → i < length xs → slice_get (xs ++ ys) i ≡ Some x → slice_get xs i ≡ Some x
got_less [] ys i x less e = absurd (omega (arith, less))
got_less (z ∷ zs) ys zero x less e = e
got_less (z ∷ zs) ys (suc i) x less e = got_less zs ys i x (omega (arith, less)) e

pub got_at : {X : Type 0} (xs : List X) (i : ℕ) (x : X) → i < length xs → x ≡ get_or xs i x → slice_get xs i ≡ Some x
got_at [] i x less e = absurd (omega (arith, less))
got_at (z ∷ zs) zero x less e = ap (λ y. Some y) (sym e)
got_at (z ∷ zs) (suc i) x less e = got_at zs i x (omega (arith, less)) e

pub some_at : {X : Type 0} (xs : List X) (i : ℕ) → i < length xs → (x : X) × (slice_get xs i ≡ Some x)
some_at [] i less = absurd (omega (arith, less))
some_at (z ∷ zs) zero less = (z, refl)
some_at (z ∷ zs) (suc i) less = some_at zs i (omega (arith, less))

pub row_placed : (v : Row) (keys after : List Row) (i : ℕ) (new : Bool) (k : Row) → IsInserted (rows_in keys) (shape_of v) new (rows_in after)
    → slice_get after i ≡ Some k → same v k ≡ true → IsRowPlaced (rows_in keys) (shape_of v) i new (rows_in after)
row_placed v keys after i new k is at e = (is, map_got shape_of after i k at ∙ ap (λ r. Some r) (sym (tells (shape_of v) (shape_of k) e)))

pub more_none : (places : List StandingShape) → AreMore places places
more_none places = ([], sym (append-nil places))

pub got_on : (before after : List StandingShape) (i : ℕ) (s : StandingShape) → AreMore before after → slice_get before i ≡ Some s → slice_get after i ≡ Some s
got_on before after i s more e = ap (λ xs. slice_get xs i) more.1 ∙ got_more before more.0 i s e

pub got_back : (before after : List StandingShape) (i : ℕ) (s : StandingShape) → AreMore before after → i < length before → slice_get after i ≡ Some s → slice_get before i ≡ Some s
got_back before after i s more less e = got_less before more.0 i s less (ap (λ xs. slice_get xs i) (sym more.1) ∙ e)

stands_on : (before after : List StandingShape) (i : ℕ) (g : Configuration) → AreMore before after → HasPlaceFor before i g → HasPlaceFor after i g
stands_on before after i g more at = (at.0, got_on before after i at.0 more at.1, at.2)

module _ (p : ProgramShape) (front : List Ticket) (sound : IsSound p) (limit : ℕ) (rows after : List RowShape) (places : List StandingShape) (s : StandingShape) (i : ℕ) (charted : AreCharted p front limit rows places) (is : IsStanding p front s) where
  found_at : (kept : List RowShape) (now : List StandingShape) → kept ≡ map (row_of p) now → AllByRecursion (IsStanding p front) now → slice_get kept i ≡ Some (row_of p s) → HasPlaceFor now i (configuration_in s)
  found_at kept now are each e = search (rules, row_tells, got_of_map, each_got)

  pub kept_charted : (new : Bool) → new ≡ false → IsRowPlaced rows (row_of p s) i new after → AreCharted p front limit after places
  kept_charted new old placed = search (rules)

  pub kept_placed : (new : Bool) → new ≡ false → IsRowPlaced rows (row_of p s) i new after → IsPlaced places places (configuration_in s) i
  kept_placed new old placed = search (rules, more_none, found_at)

  others : (ts : List StandingShape) → AllByRecursion (IsStanding p front) ts → (HasOne (λ r. row_of p s ≡ r) (map (row_of p) ts) → ⊥) → AllByRecursion (λ t. configuration_in t ≡ configuration_in s → ⊥) ts
  others [] each none = tt
  others (t ∷ ts) each none = (λ e. none (inl (same_configurations p front s t is each.0 (sym e))), others ts each.1 (λ h. none (inr h)))

  apart_on : (HasOne (λ r. row_of p s ≡ r) rows → ⊥) → NoTwo (λ t u. configuration_in t ≡ configuration_in u) (places ++ s ∷ [])
  apart_on none = search (rules, two_snoc, others)

  pub more_charted : (new : Bool) → new ≡ true → length places < limit → IsRowPlaced rows (row_of p s) i new after → (now : List StandingShape) → now ≡ places ++ s ∷ [] → AreCharted p front limit after now
  more_charted new is_new less placed now are =
      let in_rows = subst (λ n. IsInserted rows (row_of p s) n after) is_new placed.0 in
      subst (AreCharted p front limit after) (sym are)
      (record {
        rows = in_rows.0 ∙ ap (λ rs. rs ++ row_of p s ∷ []) charted.rows ∙ sym (map-append (row_of p) places (s ∷ []));
        reached = each_snoc (IsStanding p front) places s charted.reached is;
        apart = apart_on in_rows.1;
        small = (let long = length-append places (s ∷ []) in omega (arith, long, less));
      })

  pub more_placed : (new : Bool) → new ≡ true → length places < limit → IsRowPlaced rows (row_of p s) i new after → (now : List StandingShape) → now ≡ places ++ s ∷ [] → IsPlaced places now (configuration_in s) i
  more_placed new is_new less placed now are =
      let charted_now = more_charted new is_new less placed now are in
      record {
        more = (s ∷ [], are);
        few = (let long : length now ≡ length (places ++ s ∷ []) = ap length are in let longer = length-append places (s ∷ []) in omega (arith, long, longer));
        there = found_at after now charted_now.rows charted_now.reached placed.1;
      }

  pub too_many : (new : Bool) → new ≡ true → limit ≤ length places → IsRowPlaced rows (row_of p s) i new after → HasMoreThanAfter p front limit
  too_many new is_new past placed =
      let in_rows = subst (λ n. IsInserted rows (row_of p s) n after) is_new placed.0 in (
        places ++ s ∷ [],
        record {
          count = (let long = length-append places (s ∷ []) in let small = charted.small in omega (arith, long, small, past));
          reached = each_snoc (IsStanding p front) places s charted.reached is;
          different = apart_on in_rows.1;
        },
      )

-- the leads of places that grow at the end
module _ (p : ProgramShape) (before after : List StandingShape) (more : AreMore before after) (leads : List Lead) (at client : ℕ) where
  lead_on : (l : Lead) → IsLead p before l → IsLead p after l
  lead_on l lead = search (rules, got_on, stands_on)

  pub leads_on : at < length before → AreLeadsUpTo p before leads at client → AreLeadsUpTo p after leads at client
  leads_on within are = search (rules, each_map, got_back, lead_on)

behind_or_here : (at client i c : ℕ) → IsBehind at (client + 1) i c → IsBehind at client i c ⊎ ((i ≡ at) × (c ≡ client))
behind_or_here at client i c (inl l) = inl (inl l)
behind_or_here at client i c (inr h) =
    ⊎_elim (λ (less : c < client). inl (inr (h.0, less))) (λ (past : client ≤ c). inr (h.0, (let l = h.1 in omega (arith, l, past)))) (below_or_past c client)

behind_on : (at client : ℕ) (l : Lead) → IsBehind at client l.from l.client → IsBehind at (client + 1) l.from l.client
behind_on at client l (inl less) = inl less
behind_on at client l (inr h) = inr (h.0, (let less = h.1 in omega (arith, less)))

-- one more client at a place
module _ (p : ProgramShape) (places : List StandingShape) (leads : List Lead) (at client : ℕ) (are : AreLeadsUpTo p places leads at client) (s : StandingShape) (here : slice_get places at ≡ Some s) where
  same_there : (t : StandingShape) (i : ℕ) → slice_get places i ≡ Some t → i ≡ at → t ≡ s
  same_there t i e is = (let both : Some t ≡ Some s = sym e ∙ (ap (slice_get places) is ∙ here) in cc)

  pub lead_added : GoesOn p s client → (to : ℕ) → HasPlaceFor places to (one_block_on p client (configuration_in s)) → (now : List Lead)
      → now ≡ leads ++ record { from = at; client = client; to = to } ∷ [] → AreLeadsUpTo p places now at (client + 1)
  lead_added goes to ends now is = search (rules, each_map, each_snoc, has_back, has_front, pairs_join, behind_or_here, behind_on)

  pub lead_skipped : (GoesOn p s client → ⊥) → AreLeadsUpTo p places leads at (client + 1)
  lead_skipped stays = search (rules, each_map, behind_or_here, behind_on, same_there)

-- all clients at a place
pub place_done : (p : ProgramShape) (places : List StandingShape) (leads : List Lead) (at : ℕ) → AreLeadsUpTo p places leads at (length p.clients) → AreLeadsUpTo p places leads (at + 1) 0
place_done p places leads at are = search (rules, each_map, below_or_past, goes_left, in_program)

pub all_led : (p : ProgramShape) (places : List StandingShape) (leads : List Lead) (at : ℕ) → length places ≤ at → AreLeadsUpTo p places leads at 0 → AreLeads p places leads
all_led p places leads at past are = record {
  each = are.each;
  all = λ i c s e on. are.all i c s e on (inl (let less = (got places i s e).0 in omega (arith, less, past)));
  sorted = are.sorted;
}

module _ (p : ProgramShape) (places : List StandingShape) (leads : List Lead) (are : AreLeads p places leads) where
  along : (ts : List Ticket) (i : ℕ) (g : Configuration) → HasPlaceFor places i g → IsReducedFrom p g ts → (j : ℕ) × HasPlaceFor places j (configuration_from p g ts)
  along [] i g at reduced = (i, at)
  along (t ∷ ts) i g at reduced =
      let on : GoesOn p at.0 t.client = subst (λ (h : Configuration). goes_on p h.begun t.client ≡ true) (sym at.2) reduced.0 in
      has_some
      (λ (l : Lead) (is : IsLeadOf i t.client l) (lead : IsLead p places l).
      let both : Some lead.standing ≡ Some at.0 = sym lead.begins ∙ (ap (slice_get places) is.0 ∙ at.1) in
      let from : lead.standing ≡ at.0 = cc in
      let next : one_block_on p l.client (configuration_in lead.standing) ≡ one_block_on p t.client g =
      (λ k. one_block_on p (is.1 k) (configuration_in (from k))) ∙ ap (one_block_on p t.client) at.2 in
      along ts l.to (one_block_on p t.client g) (lead.ends.0, lead.ends.1, lead.ends.2 ∙ next) reduced.1)
      leads (are.all i t.client at.0 at.1 on) are.each

pub are_places : (p : ProgramShape) (front : List Ticket) (limit : ℕ) (rows : List RowShape) (places : List StandingShape) (leads : List Lead) → AreCharted p front limit rows places
    → HasPlaceFor places 0 (configuration_after p front) → AreLeads p places leads → ArePlaces p front places
are_places p front limit rows places leads charted first are = record {
  reached = charted.reached;
  apart = charted.apart;
  first = first;
  all = λ rest legal reduced.
      (let last = along p places leads are rest 0 (configuration_after p front) first reduced in
      (last.0, (last.1.0, last.1.1, last.1.2 ∙ sym (configuration-append p (first_configuration p) front rest))));
}
