-- What is read off the code's lists of clients and handlers is what the plain rules show: syncs, journals, states, and
-- whether all blocks are done. The contracts of `into_played`, `are_done` and `play` need it. The code's lists are
-- mapped to those of the rules, and each reading is compared by induction on the list.
use Rattle.std.proofs.Common.{◌≡◌, ◌<◌, ℕ, suc, ◌+◌, ◌&&◌, List, [], ◌∷◌, map, drop, length, get_or, sum_by, refl, ap, add-one, rules}
use Rattle.qs_played.proofs.Names.{drop-cons, sum_by-cons, ProgramShape}
use Rattle.qs_plain_laws.specs.audit.Plain.{Handler, no_client}
use Rattle.qs_plain_laws.specs.audit.PlainSchedule.{all_done, is_done, syncs_of}
use Rattle.qs_plain.proofs.Names.{ClientState, client_of_state, client_state_at, HandlerState, handler_of_state}

pub at_client : (cs : List ClientState) (c : ℕ) → client_of_state (client_state_at cs c) ≡ get_or (map client_of_state cs) c no_client
at_client (d ∷ cs) (suc c) = at_client cs c
at_client _ _ = refl

pub all_syncs : (cs : List ClientState) → sum_by (λ (d : ClientState). syncs_of (client_of_state d)) cs ≡ sum_by syncs_of (map client_of_state cs)
all_syncs [] = refl
all_syncs (d ∷ cs) = search (rules, sum_by-cons, map, all_syncs cs)

pub all_journals : (hs : List HandlerState) → map (λ (h : HandlerState). h.held.journal) hs ≡ map (λ (h : Handler). h.held.journal) (map handler_of_state hs)
all_journals [] = refl
all_journals (h ∷ hs) = ap (λ rest. h.held.journal ∷ rest) (all_journals hs)

pub all_states : (hs : List HandlerState) → map (λ (h : HandlerState). h.held.object) hs ≡ map (λ (h : Handler). h.held.object) (map handler_of_state hs)
all_states [] = refl
all_states (h ∷ hs) = ap (λ rest. h.held.object ∷ rest) (all_states hs)

pub done_from : (p : ProgramShape) (cs : List ClientState) (d : ClientState) (i : ℕ) → i < length cs
    → all_done p i (map client_of_state (drop i cs)) ≡ (is_done p i (client_of_state (get_or cs i d)) && all_done p (i + 1) (map client_of_state (drop (i + 1) cs)))
done_from p cs d i within = search (rules, map, drop-cons, drop, add-one)
