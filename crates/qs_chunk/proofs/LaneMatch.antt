-- The events that a client believes to have run on an object are those that ran there, followed by commands that still
-- wait. The protocol's proofs stand on it, because a client and a handler each see only their own end of a lane. It
-- goes by induction on the parcels that the handler received, with cases on whether the object is at home, asked for or
-- given away.
use Rattle.std.proofs.Common.{◌≡◌, Bool, true, false, if◌then◌else◌, None, List, [], ◌∷◌, ◌++◌, map, refl, sym, ap, ◌∙◌, subst, append_assoc, append-nil}
use Rattle.std.proofs.lemmas.List.{map-append}
use Rattle.qs_objects.specs.audit.Act.{act}
use Rattle.qs_objects.specs.audit.Journals.{HeldState, has_room, with_entry, run_one}
use Rattle.qs_objects.specs.Laws.{IsCommand}
use Rattle.qs_objects.specs.declared.Request.{Request}
use Rattle.qs_objects.specs.declared.held.Event.{Event}
use Rattle.qs_objects.specs.declared.held.Ticket.{Ticket}
use Rattle.qs_chunk.specs.audit.Runs.{ran_all}
use Rattle.qs_objects.specs.audit.Parts.{IsFront, command_event}
use Rattle.qs_chunk.specs.LaneViews.{AllCommands, Extends, ObjectStance, ClientLane, Serving, lent, HandlerGives, object_of, IsMatched, LanesMatch}
use Rattle.qs_chunk.specs.declared.parcel.Parcel.{Parcel}
use Rattle.qs_chunk.specs.declared.parcel.Parcel.TheVariants.{Work, Sync, Home, End}

AllCommands-append : (rs qs : List Request) → AllCommands rs → AllCommands qs → AllCommands (rs ++ qs)
AllCommands-append [] qs front back = back
AllCommands-append (r ∷ rs) qs front back = (front.0, AllCommands-append rs qs front.1 back)

pub Extends-append : (t : Ticket) (x y z : HeldState) (ds es : List Event) → Extends t x ds y → Extends t y es z → Extends t x (ds ++ es) z
Extends-append t x y z [] es front back = subst (λ x. Extends t x es z) (sym front) back
Extends-append t x y z (d ∷ ds) es front back = (front.0, Extends-append t (run_one x t d.request).0 y z ds es front.1 back)

-- a command has no reply, with room or without
command_reply : (x : HeldState) (t : Ticket) (r : Request) → IsCommand r.op → None ≡ (run_one x t r).1
command_reply x t r command = by_room (has_room x)
  where
    by_room : (b : Bool) → None ≡ (if b then with_entry x t r (act x.object r.op r.args) else (x, None)).1
    by_room true = sym (command x.object r.args)
    by_room false = refl

-- commands that are run
pub Extends-ran_all : (t : Ticket) (x : HeldState) (rs : List Request) → AllCommands rs → Extends t x (map command_event rs) (ran_all x t rs)
Extends-ran_all t x [] commands = refl
Extends-ran_all t x (r ∷ rs) commands = (command_reply x t r commands.0, Extends-ran_all t (run_one x t r).0 rs commands.1)

-- what ran before
IsMatched-after : (t : Ticket) (x y z : HeldState) (ds es rest : List Event)
    → es ≡ ds ++ rest → Extends t x ds y → IsMatched t y rest z → IsMatched t x es z
IsMatched-after t x y z ds es rest parted front m = record {
  done = ds ++ m.done;
  waiting = m.waiting;
  parts = parted ∙ (ap (λ xs. ds ++ xs) m.parts ∙ sym (append_assoc ds m.done (map command_event m.waiting)));
  extends = Extends-append t x y z ds m.done front m.extends;
  commands = m.commands;
}

-- commands alone, which wait
only_waiting : (t : Ticket) (x : HeldState) (es : List Event) (rs : List Request) → es ≡ map command_event rs → AllCommands rs → IsMatched t x es x
only_waiting t x es rs is commands = record { done = []; waiting = rs; parts = is; extends = refl; commands = commands }

-- with nothing got, a client's events are commands
commands_alone : (t : Ticket) (sent : List Parcel) (es : List Event) (s : ObjectStance)
    → ClientLane t false sent [] es s → (rs : List Request) × (es ≡ map command_event rs) × AllCommands rs
commands_alone t [] es s (chunk, stands, none, is, commands) = (chunk, is, commands)
commands_alone t (Work chunk ∷ sent) es s (rest, is, commands, lane) =
    let r = commands_alone t sent rest s lane in (
      chunk.items ++ r.0,
      is ∙ (ap (λ xs. map command_event chunk.items ++ xs) r.1 ∙ sym (map-append command_event chunk.items r.0)),
      AllCommands-append chunk.items r.0 commands r.2,
    )
commands_alone t (Sync ∷ []) es s lane = ([], lane.0, tt)
commands_alone t (Sync ∷ (Home x ∷ sent)) es s lane = absurd (cc (lane.4))
commands_alone t (Sync ∷ (Work chunk ∷ sent)) es s lane = absurd lane
commands_alone t (Sync ∷ (Sync ∷ sent)) es s lane = absurd lane
commands_alone t (Sync ∷ (End ∷ sent)) es s lane = absurd lane
commands_alone t (Home x ∷ sent) es s lane = absurd lane
commands_alone t (End ∷ sent) es s lane = ([], lane.2, tt)

front_of_none : {X : Type 0} (xs : List X) → IsFront xs [] → xs ≡ []
front_of_none [] front = refl
front_of_none (x ∷ xs) front = absurd (cc (front.1))

front_rest : {X : Type 0} (x y : X) (xs ys : List X) → IsFront (x ∷ xs) (y ∷ ys) → (x ≡ y) × IsFront xs ys
front_rest x y xs ys front = (cc (front.1), (front.0, cc (front.1)))

-- the handler has the object, and gave none
at_home : (t : Ticket) (x : HeldState) (way : List Parcel) (got gave : List HeldState) (es : List Event) (c : ObjectStance)
    → ClientLane t false way got es c → gave ≡ [] → IsFront got gave → IsMatched t x es x
at_home t x way got gave es c lane none front =
    let nothing : got ≡ [] = front_of_none got (subst (IsFront got) none front) in
    let r = commands_alone t way es c (subst (λ g. ClientLane t false way g es c) nothing lane) in
    only_waiting t x es r.0 r.1 r.2

-- the handler was asked for the object, and has received nothing more
was_asked : (t : Ticket) (x : HeldState) (way : List Parcel) (got gave : List HeldState) (es : List Event) (c : ObjectStance) (h : Serving)
    → ClientLane t true way got es c → HandlerGives x gave h → IsFront got gave → IsMatched t x es (object_of h c way)
was_asked t x [] [] [] es c h k l f = subst (λ h. IsMatched t x es (object_of h c [])) (sym l) (only_waiting t x es [] k.0 tt)
was_asked t x [] [] (g ∷ gave) es c h k l f =
    subst (λ h. IsMatched t x es (object_of h c [])) (sym l.2)
    (subst (λ c. IsMatched t x es (object_of (lent x) c [])) (sym k.1) (only_waiting t x es [] k.0 tt))
was_asked t x [] (p ∷ got) [] es c h k l f = absurd (cc (f.1))
was_asked t x [] (p ∷ got) (g ∷ gave) es c h k l f =
    let same : p ≡ x = (front_rest p g got gave f).0 ∙ l.0 in
    subst (λ h. IsMatched t x es (object_of h c [])) (sym l.2)
    (subst (λ c. IsMatched t x es (object_of (lent x) c [])) (sym k.2)
    (record { done = es; waiting = []; parts = sym (append-nil es); extends = subst (λ p. Extends t p es k.0) same k.3; commands = tt }))
was_asked t x (Home y ∷ way) got [] es c h k l f = absurd (let none = front_of_none got f in cc (none, k.4))
was_asked t x (Home y ∷ way) got (g ∷ gave) es c h k l f =
    let both = front_rest k.0 g k.1 gave (subst (λ q. IsFront q (g ∷ gave)) k.4 f) in
    let none : k.1 ≡ [] = front_of_none k.1 (subst (IsFront k.1) l.1 both.1) in
    let r = commands_alone t way k.3 c (subst (λ q. ClientLane t false way q k.3 c) none k.7) in
    subst (λ h. IsMatched t x es (object_of h c (Home y ∷ way))) (sym l.2)
    (IsMatched-after t x y y k.2 es k.3 k.5 (subst (λ p. Extends t p k.2 y) (both.0 ∙ l.0) k.6) (only_waiting t y k.3 r.0 r.1 r.2))
was_asked t x (Work chunk ∷ way) got gave es c h k l f = absurd k
was_asked t x (Sync ∷ way) got gave es c h k l f = absurd k
was_asked t x (End ∷ way) got gave es c h k l f = absurd k

pub lanes_match : LanesMatch
lanes_match t x [] way got gave es c h k l f =
    subst (λ h. IsMatched t x es (object_of h c way)) (sym l.1) (at_home t x way got gave es c k l.0 f)
lanes_match t x (Work chunk ∷ received) way got gave es c h k l f =
    let after = ran_all x t chunk.items in
    IsMatched-after t x after (object_of h c way) (map command_event chunk.items) es k.0 k.1 (Extends-ran_all t x chunk.items k.2)
    (lanes_match t after received way got gave k.0 c h k.3 l f)
lanes_match t x (Home y ∷ received) way got gave es c h k l f = absurd k
lanes_match t x (End ∷ received) way got gave es c h k l f =
    subst (λ h. IsMatched t x es (object_of h c way)) (sym l.2) (only_waiting t x es [] k.2 tt)
lanes_match t x (Sync ∷ []) way got gave es c h k l f = was_asked t x way got gave es c h k l f
lanes_match t x (Sync ∷ (Home y ∷ received)) way got gave es c h k l f =
    let both = front_rest k.0 x k.1 l.0 (subst (λ g. IsFront g (x ∷ l.0)) k.4 (subst (IsFront got) l.1 f)) in
    IsMatched-after t x y (object_of h c way) k.2 es k.3 k.5 (subst (λ g. Extends t g k.2 y) both.0 k.6)
    (lanes_match t y received way k.1 l.0 k.3 c h k.7 l.2 both.1)
lanes_match t x (Sync ∷ (Work chunk ∷ received)) way got gave es c h k l f = absurd k
lanes_match t x (Sync ∷ (Sync ∷ received)) way got gave es c h k l f = absurd k
lanes_match t x (Sync ∷ (End ∷ received)) way got gave es c h k l f = absurd k
