-- What is left of the handlers while clients are collected. As the lanes of a client are joined, each handler's end of
-- them is taken out of its place. So two loops change the handlers: one goes through the handlers of one client, the
-- other through the clients. These lemmas say, for the step of each loop, that the ends which are not taken yet are as
-- before the run was collected, and which are taken afterwards.
use Rattle.std.proofs.Common.{◌≡◌, ◌≢◌, ◌<◌, ◌≤◌, ◌+◌, ℕ, zero, suc, List, [], ◌∷◌, Option, Some, None, length, map, get_or, slice_get, slice_set, refl, sym, ap, ◌∙◌, subst, arith, add-one, rules}
use Rattle.std.proofs.lemmas.List.{get_or-set_other}
use Rattle.qs_run.proofs.Names.{OutView, AreEndsJoined, AreLanesJoined, AreLanesPaired, without_lane_of, without_lanes_below, AreOneLane, HandlerWorker}
use Rattle.qs_run.specs.client.ClientThreads as running
use Rattle.qs_run.specs.handler.HandlerThreads as handling
use Rattle.qs_run.proofs.ListPlaces.{front_set, here_at, map_back, map_front, map_get}

module _ {D : Type 0} where
  -- the ends from later clients are still there
  pub lane_still : (n c : ℕ) (s : HandlerWorker D) → n ≤ c → handling.in_lane_at (without_lanes_below n s).lanes c ≡ handling.in_lane_at s.lanes c
  lane_still zero c s le = refl
  lane_still (suc n) c s le =
      get_or-set_other (without_lanes_below n s).lanes n c None None (let apart : c ≢ n = omega (arith, le) in apart) ∙ lane_still n c s (omega (arith, le))

  -- a client's ends and the handlers', whose earlier lanes were without_lane_of
  pub paired_still : (lanes : List (Option OutView)) (n : ℕ) (hs : List (HandlerWorker D)) → AreLanesPaired lanes n hs → AreLanesPaired lanes n (map (without_lanes_below n) hs)
  paired_still lanes n hs paired h r e = grind (arith, map_back, r, lane_still)

  -- and where they are joined now, those before the first client was collected are joined
  pub joined_before : (lanes : List (Option OutView)) (n : ℕ) (hs : List (HandlerWorker D)) → AreLanesJoined lanes n (map (without_lanes_below n) hs) → AreLanesJoined lanes n hs
  joined_before lanes n hs joined h r e = grind (arith, lane_still, map_get)

  -- the steps of the loop through the clients
  pub none_taken : (hs : List (HandlerWorker D)) → hs ≡ map (without_lanes_below 0) hs
  none_taken [] = refl
  none_taken (s ∷ hs) = ap (λ xs. s ∷ xs) (none_taken hs)

  next_taken : (n : ℕ) (hs : List (HandlerWorker D)) → map (without_lane_of n) (map (without_lanes_below n) hs) ≡ map (without_lanes_below (suc n)) hs
  next_taken n [] = refl
  next_taken n (s ∷ hs) = ap (λ xs. without_lanes_below (suc n) s ∷ xs) (next_taken n hs)

  pub one_more_taken : (n : ℕ) (hs : List (HandlerWorker D)) → map (without_lane_of n) (map (without_lanes_below n) hs) ≡ map (without_lanes_below (n + 1)) hs
  one_more_taken n hs = next_taken n hs ∙ ap (λ m. map (without_lanes_below m) hs) (sym (add-one n))

-- The step of the loop through the handlers of one client, at handler n: `now` and `ls` are the client's and the
-- handlers' lanes at the step.
module _ {D : Type 0} (c n : ℕ) (lanes now : List (Option OutView)) (hs ls : List (HandlerWorker D)) (x : HandlerWorker D) (is : ls ≡ map_front (without_lane_of c) n hs)
    (still : running.out_lane_at now n ≡ running.out_lane_at lanes n) (lt : n < length ls) (e : x ≡ get_or ls n x) where
  pub paired_here : AreLanesPaired lanes c hs → AreOneLane (running.out_lane_at now n) (handling.in_lane_at (get_or ls n x).lanes c)
  paired_here paired =
      subst (λ (q : Option OutView × HandlerWorker D). AreOneLane q.0 (handling.in_lane_at q.1.lanes c)) (λ i. (sym still i, e i))
      (paired n x (here_at (without_lane_of c) n hs ls x is lt e))

  pub joined_here : AreEndsJoined (running.out_lane_at now n) (handling.in_lane_at (get_or ls n x).lanes c) → (r : HandlerWorker D) → slice_get hs n ≡ Some r
      → AreEndsJoined (running.out_lane_at lanes n) (handling.in_lane_at r.lanes c)
  joined_here joined r er =
      let same : x ≡ r = (let there = here_at (without_lane_of c) n hs ls x is lt e in cc) in
      subst (λ (q : Option OutView × HandlerWorker D). AreEndsJoined q.0 (handling.in_lane_at q.1.lanes c)) (λ i. (still i, (sym e ∙ same) i)) joined

  pub taken_here : (y : HandlerWorker D) → y ≡ without_lane_of c (get_or ls n x) → slice_set ls n y ≡ map_front (without_lane_of c) (n + 1) hs
  taken_here y taken =
      (λ i. slice_set (is i) n ((taken ∙ ap (without_lane_of c) (sym e)) i))
      ∙ (front_set (without_lane_of c) n hs x (here_at (without_lane_of c) n hs ls x is lt e) ∙ ap (λ m. map_front (without_lane_of c) m hs) (sym (add-one n)))
