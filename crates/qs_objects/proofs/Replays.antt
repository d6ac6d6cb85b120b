-- A journal in two parts is replayed one part after the other, it is honest where both parts are, and serving a request
-- keeps it true to its object. The law that journals stay honest stands on it, and the proofs of isolation cut journals
-- by it. It goes by induction on the first part.
use Rattle.std.proofs.Common.{◌≡◌, Bool, Option, None, ℤ, if◌then◌else◌, true, false, List, [], ◌∷◌, ◌++◌, refl, sym, ap, ◌∙◌, subst}
use Rattle.std.proofs.lemmas.List.{map-append}
use Rattle.qs_objects.specs.audit.Act.{State, act}
use Rattle.qs_objects.specs.audit.Journals.{HeldState, has_room, with_entry, after, answer, unstamp, without_tickets, replay, IsHonest, run_one}
use Rattle.qs_objects.specs.Journals.{IsFaithful}
use Rattle.qs_objects.specs.declared.held.Entry.{Entry}
use Rattle.qs_objects.specs.declared.held.Event.{Event}
use Rattle.qs_objects.specs.declared.held.Ticket.{Ticket}
use Rattle.qs_objects.specs.declared.Request.{Request}

pub replay-append : (s : State) (xs ys : List Event) → replay s (xs ++ ys) ≡ replay (replay s xs) ys
replay-append s [] ys = refl
replay-append s (x ∷ xs) ys = replay-append (after s x.request) xs ys

pub IsHonest-append : (s : State) (xs ys : List Event) → IsHonest s xs → IsHonest (replay s xs) ys → IsHonest s (xs ++ ys)
IsHonest-append s [] ys front back = back
IsHonest-append s (x ∷ xs) ys front back = (front.0, IsHonest-append (after s x.request) xs ys front.1 back)

pub IsHonest-front : (s : State) (xs ys : List Event) → IsHonest s (xs ++ ys) → IsHonest s xs
IsHonest-front s [] ys all = tt
IsHonest-front s (x ∷ xs) ys all = (all.0, IsHonest-front (after s x.request) xs ys all.1)

pub IsHonest-back : (s : State) (xs ys : List Event) → IsHonest s (xs ++ ys) → IsHonest (replay s xs) ys
IsHonest-back s [] ys all = all
IsHonest-back s (x ∷ xs) ys all = IsHonest-back (after s x.request) xs ys all.1

-- the entry of a request that an object served
abbrev pub entry_served : State → Ticket → Request → Entry
entry_served s t r = record { ticket = t; request = r; reply = answer s r }

IsHonest-served : (start : State) (j : List Entry) (s : State) (t : Ticket) (r : Request)
    → IsHonest start (without_tickets j) → replay start (without_tickets j) ≡ s → IsHonest start (without_tickets (j ++ entry_served s t r ∷ []))
IsHonest-served start j s t r honest left =
    subst (λ es. IsHonest start es) (sym (map-append unstamp j (entry_served s t r ∷ [])))
    (IsHonest-append start (without_tickets j) (unstamp (entry_served s t r) ∷ []) honest (ap (λ s. answer s r) (sym left), tt))

replay-served : (start : State) (j : List Entry) (s : State) (t : Ticket) (r : Request)
    → replay start (without_tickets j) ≡ s → replay start (without_tickets (j ++ entry_served s t r ∷ [])) ≡ after s r
replay-served start j s t r left =
    ap (λ es. replay start es) (map-append unstamp j (entry_served s t r ∷ []))
    ∙ (replay-append start (without_tickets j) (unstamp (entry_served s t r) ∷ []) ∙ ap (λ s. after s r) left)

noted_is_faithful : (start : State) (h : HeldState) (t : Ticket) (r : Request)
    → IsFaithful start h → IsFaithful start (with_entry h t r (act h.object r.op r.args)).0
noted_is_faithful start h t r faithful = record {
  honest = IsHonest-served start h.journal h.object t r faithful.honest faithful.object;
  object = replay-served start h.journal h.object t r faithful.object;
}

pub ran_is_faithful : (start : State) (h : HeldState) (t : Ticket) (r : Request)
    → IsFaithful start h → IsFaithful start (run_one h t r).0
ran_is_faithful start h t r faithful =
    let either : Bool → HeldState × Option ℤ = λ b. if b then with_entry h t r (act h.object r.op r.args) else (h, None) in
    elim (has_room h) as (λ b. IsFaithful start (either b).0)
    [ true ↦ noted_is_faithful start h t r faithful | false ↦ faithful ]
