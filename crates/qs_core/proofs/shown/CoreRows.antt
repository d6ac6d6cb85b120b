-- The rows that the clients' minds are turned into have a place for each ticket of the order, and with them exactly
-- what the machine shows is shown. The code's `shown` gives the clients' lists away by move, so its contract is about
-- rows. The proof finds a client's row by induction on the list of clients, and a ticket's place by what holds of every
-- mind.
use Rattle.std.proofs.Common.{◌≡◌, ◌<◌, ℕ, zero, suc, List, [], ◌∷◌, length, get_or, map, refl, sym, subst, arith, rules}
use Rattle.qs_played.proofs.Names.{length-map, Ticket, ClientRows, HasRows, HaveRows, rows_at, shown_with}
use Rattle.qs_client.specs.MindState.{IsMind}
use Rattle.qs_played.specs.declared.shown.played.Endings.{Endings}
use Rattle.qs_core.specs.parts.CoreClients.{CoreClientState, rows_of, whole_of}
use Rattle.qs_core.proofs.Names.{CoreHandlerState, client_part_at}
use Rattle.qs_core.specs.shown.CoreShown.{AreBegunBy, AreMinds, IsBegunBy, endings_by, rows_by, shown_by}

-- a client's rows are those of its mind
pub rows_are : (cs : List CoreClientState) (c : ℕ) → rows_at (rows_by cs) c ≡ rows_of (client_part_at cs c).mind
rows_are (s ∷ cs) (suc c) = rows_are cs c
rows_are _ _ = refl

mind_at : (cs : List CoreClientState) (c : ℕ) → AreMinds cs → c < length cs → IsMind (client_part_at cs c).mind
mind_at [] c minds inside = absurd (omega (arith, inside))
mind_at (s ∷ cs) zero minds inside = minds.0
mind_at (s ∷ cs) (suc c) minds inside = mind_at cs c minds.1 (omega (arith, inside))

pub have_rows : (order : List Ticket) (cs : List CoreClientState) (rows : List ClientRows) → rows ≡ rows_by cs → AreMinds cs → AreBegunBy cs order
    → HaveRows rows order
have_rows order cs rows is minds begun i d inside =
    let t = get_or order i d in
    let here : IsBegunBy cs t = begun i d inside in
    let ok = mind_at cs t.client minds here.0 in
    let many = length-map cs (λ (s : CoreClientState). rows_of (whole_of s)) in
    subst (λ (rs : List ClientRows). HasRows rs t) (sym is) (record {
      client = let less = here.0 in omega (arith, many, less);
      entry = grind (arith, rows_are);
      trace = grind (arith, rows_are);
      counts = grind (arith, rows_are);
    })

-- with them, all that is shown
pub shown_are : (order : List Ticket) (cs : List CoreClientState) (hs : List CoreHandlerState) (rows : List ClientRows) (e : Endings)
    → rows ≡ rows_by cs → e ≡ endings_by order cs hs
    → shown_with order e.ended rows e.journals e.states e.syncs e.finished ≡ shown_by order cs hs
unfolding endings_by shown_by
shown_are order cs hs rows e is ending = search (rules, map, rows_are)
