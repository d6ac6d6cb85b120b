-- The text of the optimised machine's queues, part by part: a parcel and its chunk, a lane, the tickets before a
-- handler, what a client waits for, and all of what is told.
use Rattle.std.proofs.Common.{◌≡◌, ◌<◌, ℕ, zero, suc, Bool, true, false, List, [], ◌∷◌, ◌++◌, cond, drop, length, get_or, take, Option, Some, None, refl, ap, sym, ◌∙◌, ◌+◌, nat_lt, nat_eq, arith, codes}
use Rattle.qs_steps.proofs.Names.{Actor, Batch, CoreState, Form, HeldState, IsPlayedOn, IsToldIn, Mode, Parcel, Played, ProgramShape, Request, Wanted, Work, client_at, codes_of, core_of}
use Rattle.qs_steps.proofs.Names.{core_played, drop-cons, get_or-any, is_some, requests_in, schedule, waits_at, waits_nothing}
use Rattle.qs_core_laws.specs.CoreSchedule.{core_scheduled}
use Rattle.qs_core.specs.parts.CarriedRequests.{first_requests, requests_in as carried}
use Rattle.qs_steps.specs.CoreQueues.{chunk_in, core_queues, gap_in, lane_in, parcel_in, parcels_in, queues_in, wait_for_chunk, wait_for_object}
use Rattle.qs_steps.specs.CoreSteps.{core_steps}
use Rattle.qs_steps.specs.declared.wanted.Form.TheVariants as form
use Rattle.qs_steps.proofs.Queues.{elements_more, listed_more}

module _ (f : Form) (p : ProgramShape) where
  module _ (down : List Parcel) (place : ℕ) (inside : place < length down) (x : Parcel) (is : x ≡ get_or down place x) where
    pub parcel_is : (d : Parcel) → parcel_in f p x ≡ parcel_in f p (get_or down place d)
    parcel_is d = ap (parcel_in f p) (is ∙ get_or-any down place x d inside)

    -- the requests of the chunk at this place
    pub chunk_is : (chunk : Batch Request) → x ≡ Work chunk → (d : Parcel)
        → chunk_in f (requests_in f p (first_requests (drop place down))) ≡ parcel_in f p (get_or down place d)
    chunk_is chunk same d =
        ap (λ rs. chunk_in f (requests_in f p rs)) (ap first_requests (drop-cons down place x inside) ∙ ap carried (sym is ∙ same))
        ∙ ap (parcel_in f p) (sym same) ∙ parcel_is d

  -- what a client waits for, by whether it is there
  pub object_wait : (h : ℕ) (x : Option HeldState) → cond (is_some x) (waits_nothing f) (waits_at f (codes "waits for ") (codes "object") p h) ≡ wait_for_object f p h x
  object_wait h None = refl
  object_wait h (Some x) = refl

  pub chunk_wait : (h n : ℕ) → cond (nat_lt 0 n) (waits_nothing f) (waits_at f (codes "waits for an empty chunk of ") (codes "chunk") p h) ≡ wait_for_chunk f p h n
  chunk_wait h zero = refl
  chunk_wait h (suc n) = let some : nat_lt 0 (suc n) ≡ true = grind arith in rw some refl

-- one parcel more of a lane
pub parcels_more : (f : Form) (p : ProgramShape) (down : List Parcel) (before between after : List ℕ) (i : ℕ) (d : Parcel) → i < length down → between ≡ before ++ parcels_in f p (take i down)
    → after ≡ between ++ (gap_in f i ++ parcel_in f p (get_or down i d)) → after ≡ before ++ parcels_in f p (take (i + 1) down)
parcels_more form.Text p down before between after i d inside first second = elements_more (λ y. codes " " ++ parcel_in form.Text p y) down before between after i d inside first second
parcels_more form.Json p down before between after i d inside first second = listed_more form.Json (parcel_in form.Json p) down before between after i d inside first second

module _ (p : ProgramShape) where
  -- in text a lane in which nothing lies has no line
  pub no_lane : (c : ℕ) (down : List Parcel) (b : Bool) → b ≡ nat_eq (length down) 0 → b ≡ true → lane_in form.Text p c down ≡ []
  no_lane c [] b is empty = refl
  no_lane c (x ∷ xs) b is empty = let other : nat_eq (suc (length xs)) 0 ≡ false = grind arith in cc

  pub some_lane : (c : ℕ) (down : List Parcel) (b : Bool) → b ≡ nat_eq (length down) 0 → b ≡ false
      → lane_in form.Text p c down ≡ codes "lane " ++ (client_at p c).name ++ parcels_in form.Text p down ++ codes "\n"
  some_lane c [] b is filled = cc
  some_lane c (x ∷ xs) b is filled = refl

-- the texts and what is shown, by the state after the schedule
pub told_in : (p : ProgramShape) (mode : Mode) (size : ℕ) (picks : List Actor) (rounds : ℕ) (wanted : Wanted) (s : CoreState) (steps queues : List ℕ) (played : Played)
    → IsPlayedOn p mode size (schedule p picks rounds) s → steps ≡ cond wanted.steps (core_steps wanted.form p (codes_of s) s.size picks rounds) []
    → queues ≡ cond wanted.queues (queues_in wanted.form p (codes_of s) s.size (core_of s)) [] → played ≡ core_played s.program (core_of s)
    → IsToldIn p mode size picks rounds wanted steps queues played
unfolding core_scheduled core_queues
told_in p mode size picks rounds wanted s steps queues played on first second third = (
  codes_of s,
  on.codes,
  first ∙ ap (λ n. cond wanted.steps (core_steps wanted.form p (codes_of s) n picks rounds) []) on.size,
  second ∙ (λ k. cond wanted.queues (queues_in wanted.form p (codes_of s) (on.size k) (on.played k)) []),
  third ∙ (λ k. core_played (on.program k) (on.played k)),
)
