-- The ends of lanes in their places while they are made. One loop goes through the clients and the other through the
-- handlers of a client; the lanes so far are there and the places of the others are empty, and each new end changes its
-- own place alone. In the end all lanes of the program are there, and beyond its clients and handlers there is none.
use Rattle.std.proofs.Common.{◌≡◌, ℕ, ◌+◌, ◌<◌, ◌≤◌, Bool, false, List, Option, None, length, below_more, arith, rules}
use Rattle.qs_run.proofs.Names.{AreNewEnds, InView, IsSound, OutView, ProgramShape, ever_reserves, in_at, out_at}
use Rattle.qs_run.proofs.EverReserved.{past_clients, past_handlers}

-- the ends at two places are those that were put there
ends_moved : (size : ℕ) (wanted : Bool) (out placed_out : Option OutView) (inside placed_in : Option InView) → AreNewEnds size wanted out inside
    → placed_out ≡ out → placed_in ≡ inside → AreNewEnds size wanted placed_out placed_in
ends_moved size wanted out v inside w ends u z = search rules

-- there are no ends where no lane is wanted
no_ends : (size : ℕ) (wanted : Bool) (out : Option OutView) (inside : Option InView) → wanted ≡ false → out ≡ None → inside ≡ None
    → AreNewEnds size wanted out inside
no_ends size wanted out inside unwanted v w = search (rules, ends_moved)

module _ (p : ProgramShape) (size : ℕ) (outs : List (List (Option OutView))) (ins : List (List (Option InView))) where
  -- the ends between client c and handler h are in their places
  abbrev pub AreEndsBetween : ℕ → ℕ → Type 0
  AreEndsBetween c h = AreNewEnds size (ever_reserves p c h) (out_at outs c h) (in_at ins c h)

  -- or there are none yet
  abbrev pub AreNoEndsAt : ℕ → ℕ → Type 0
  AreNoEndsAt c h = (out_at outs c h ≡ None) × (in_at ins c h ≡ None)

  -- with the lanes to the handlers of the program a client has all of its lanes
  pub all_handlers : IsSound p → (c n : ℕ) → length p.objects ≤ n → ((h : ℕ) → h < n → AreEndsBetween c h) → ((h : ℕ) → n ≤ h → AreNoEndsAt c h) → (h : ℕ) → AreEndsBetween c h
  all_handlers sound c n many done rest h = grind (arith, no_ends, past_handlers)

  -- with the lanes of the clients of the program all lanes are there
  pub all_clients : (n : ℕ) → length p.clients ≤ n → ((c h : ℕ) → c < n → AreEndsBetween c h) → ((c h : ℕ) → n ≤ c → AreNoEndsAt c h) → (c h : ℕ) → AreEndsBetween c h
  all_clients n many done rest c h = grind (arith, no_ends, past_clients)

  module _ (outs_before : List (List (Option OutView))) (ins_before : List (List (Option InView))) where
    -- the places of a client are as they were before
    abbrev pub AreEndsSame : ℕ → ℕ → Type 0
    AreEndsSame c h = (out_at outs c h ≡ out_at outs_before c h) × (in_at ins c h ≡ in_at ins_before c h)

-- the lanes of one client more
pub one_client_more : (p : ProgramShape) (size : ℕ) (outs outs_before : List (List (Option OutView))) (ins ins_before : List (List (Option InView))) (n : ℕ)
    → ((c h : ℕ) → c < n → AreEndsBetween p size outs_before ins_before c h) → ((h : ℕ) → AreEndsBetween p size outs ins n h)
    → ((c h : ℕ) → (c ≡ n → ⊥) → AreEndsSame p size outs ins outs_before ins_before c h)
    → (c h : ℕ) → c < n + 1 → AreEndsBetween p size outs ins c h
one_client_more p size outs v ins w n done here others = grind (arith, below_more, ends_moved)

-- and the places of those after it are as free as before
pub rest_free : (p : ProgramShape) (size : ℕ) (outs outs_before : List (List (Option OutView))) (ins ins_before : List (List (Option InView))) (n : ℕ)
    → ((c h : ℕ) → n ≤ c → AreNoEndsAt p size outs_before ins_before c h)
    → ((c h : ℕ) → (c ≡ n → ⊥) → AreEndsSame p size outs ins outs_before ins_before c h)
    → (c h : ℕ) → n + 1 ≤ c → AreNoEndsAt p size outs ins c h
rest_free p size outs v ins w n rest others c h past = grind arith
