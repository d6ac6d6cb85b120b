-- A list in which each parcel may follow those before it is the beginning of a list of the lane's form, and the other
-- way round. The two ends of a lane look at one parcel at a time, and they promise the form of the whole lane by this.
-- One direction completes the last block by induction on the parcels, the other goes by induction on the blocks and
-- their rounds.
use Rattle.std.proofs.Common.{◌≡◌, ℕ, Bool, true, false, pos, List, [], ◌∷◌, ◌++◌, map, flat_map, refl, sym, ap, ◌∙◌, subst, append_assoc}
use Rattle.std.specs.List.{AllByRecursion}
use Rattle.qs_objects.specs.audit.Act.{account}
use Rattle.qs_objects.specs.audit.Objects.{fresh}
use Rattle.qs_objects.specs.audit.Journals.{HeldState}
use Rattle.qs_objects.specs.declared.Request.{Request}
use Rattle.qs_chunk.specs.audit.Batch.{Batch}
use Rattle.qs_chunk.specs.audit.Lanes.{Round, Sending, round_parcels, block_parcels, HasSize, is_sync, is_asked}
use Rattle.qs_chunk.specs.Lanes.{BeginsLane, MayFollow, StandsFrom, IsLane}
use Rattle.qs_chunk.specs.LaneLaws.{LanesAreFronts, NextKeepsForm, LaneLaws}
use Rattle.qs_chunk.specs.declared.parcel.Parcel.{Parcel}
use Rattle.qs_chunk.specs.declared.parcel.Parcel.TheVariants.{Work, Sync, Home, End}

-- a front of what stands in order does
pub StandsFrom-front : (size : ℕ) (asked : Bool) (ps qs : List Parcel) → StandsFrom size asked (ps ++ qs) → StandsFrom size asked ps
StandsFrom-front size asked [] qs all = tt
StandsFrom-front size asked (p ∷ ps) qs all = (all.0, StandsFrom-front size (is_sync p) ps qs all.1)

-- one more parcel
pub StandsFrom-last : (size : ℕ) (asked : Bool) (ps : List Parcel) (p : Parcel)
    → StandsFrom size asked ps → MayFollow size (is_asked asked ps) p → StandsFrom size asked (ps ++ p ∷ [])
StandsFrom-last size asked [] p before next = (next, tt)
StandsFrom-last size asked (q ∷ ps) p before next = (before.0, StandsFrom-last size (is_sync q) ps p before.1 next)

pub MayFollow-last : (size : ℕ) (asked : Bool) (ps : List Parcel) (p : Parcel)
    → StandsFrom size asked (ps ++ p ∷ []) → MayFollow size (is_asked asked ps) p
MayFollow-last size asked [] p all = all.0
MayFollow-last size asked (q ∷ ps) p all = MayFollow-last size (is_sync q) ps p all.1

-- whether the last parcel is a Sync, where it stands last
pub asked_last : (asked : Bool) (ps : List Parcel) (p : Parcel) → is_asked asked (ps ++ p ∷ []) ≡ is_sync p
asked_last asked [] p = refl
asked_last asked (q ∷ ps) p = asked_last (is_sync q) ps p

-- an object that a client may still owe
some_object : HeldState
some_object = record { object = fresh (account (pos 0)); journal = []; room = 0 }

-- whole blocks, of which there is a first
abbrev from : Sending → List Sending → List Parcel
from s more = block_parcels s ++ flat_map block_parcels more

-- what follows, where the block goes on; and where its object is away
abbrev Rest : Bool → List Parcel → Type 0
Rest false qs = (s : Sending) × (more : List Sending) × (qs ≡ from s more)
Rest true qs = (x : HeldState) × (s : Sending) × (more : List Sending) × (qs ≡ Home x ∷ from s more)

-- parcels that stand in order, with what is left of the last block
abbrev Completed : ℕ → Bool → List Parcel → Type 0
Completed size asked ps = (rest : List Parcel) × Rest asked (ps ++ rest) × AllByRecursion (HasSize size) (ps ++ rest)

-- one more chunk, in front of the block
more_work : (c : Batch Request) (qs : List Parcel) → Rest false qs → Rest false (Work c ∷ qs)
more_work c qs (s, more, is) = (record { chunks = c ∷ s.chunks; rounds = s.rounds }, more, ap (λ xs. Work c ∷ xs) is)

-- a Sync in front of an object that comes home
more_sync : (qs : List Parcel) → Rest true qs → Rest false (Sync ∷ qs)
more_sync qs (x, s, more, is) =
    (record { chunks = []; rounds = record { home = x; chunks = s.chunks } ∷ s.rounds }, more, ap (λ xs. Sync ∷ xs) is)

more_home : (x : HeldState) (qs : List Parcel) → Rest false qs → Rest true (Home x ∷ qs)
more_home x qs (s, more, is) = (x, s, more, ap (λ xs. Home x ∷ xs) is)

-- a block without requests, in front of the others
more_end : (qs : List Parcel) → Rest false qs → Rest false (End ∷ qs)
more_end qs (s, more, is) = (record { chunks = []; rounds = [] }, s ∷ more, ap (λ xs. End ∷ xs) is)

completed : (size : ℕ) (asked : Bool) (ps : List Parcel) → StandsFrom size asked ps → Completed size asked ps
completed size false [] stands = (End ∷ [], (record { chunks = []; rounds = [] }, [], refl), (tt, tt))
completed size true [] stands = (Home some_object ∷ End ∷ [], (some_object, record { chunks = []; rounds = [] }, [], refl), (tt, (tt, tt)))
completed size false (Work c ∷ ps) stands =
    let r = completed size false ps stands.1 in (r.0, more_work c (ps ++ r.0) r.1, (stands.0.1, r.2))
completed size false (Sync ∷ ps) stands = let r = completed size true ps stands.1 in (r.0, more_sync (ps ++ r.0) r.1, (tt, r.2))
completed size false (Home x ∷ ps) stands = absurd (cc stands.0.0)
completed size false (End ∷ ps) stands = let r = completed size false ps stands.1 in (r.0, more_end (ps ++ r.0) r.1, (tt, r.2))
completed size true (Work c ∷ ps) stands = absurd (cc stands.0.0)
completed size true (Sync ∷ ps) stands = absurd (cc stands.0.0)
completed size true (Home x ∷ ps) stands = let r = completed size false ps stands.1 in (r.0, more_home x (ps ++ r.0) r.1, (tt, r.2))
completed size true (End ∷ ps) stands = absurd (cc stands.0.0)

-- what has the sizes stands in order
abbrev StandsInOrder : ℕ → List Parcel → Type 0
StandsInOrder size ps = AllByRecursion (HasSize size) ps → StandsFrom size false ps

chunks_go : (size : ℕ) (cs : List (Batch Request)) (rest : List Parcel) → StandsInOrder size rest → StandsInOrder size (map Work cs ++ rest)
chunks_go size [] rest go = go
chunks_go size (c ∷ cs) rest go = λ sizes. ((refl, sizes.0), chunks_go size cs rest go sizes.1)

rounds_go : (size : ℕ) (rs : List Round) (rest : List Parcel) → StandsInOrder size rest → StandsInOrder size (flat_map round_parcels rs ++ rest)
rounds_go size [] rest go = go
rounds_go size (r ∷ rs) rest go =
    let others = flat_map round_parcels rs in
    let parted : map Work r.chunks ++ (others ++ rest) ≡ (map Work r.chunks ++ others) ++ rest = sym (append_assoc (map Work r.chunks) others rest) in
    subst (λ xs. StandsInOrder size (Sync ∷ Home r.home ∷ xs)) parted
    (λ sizes. ((refl, tt), ((refl, tt), chunks_go size r.chunks (others ++ rest) (rounds_go size rs rest go) sizes.1.1)))

blocks_go : (size : ℕ) (bs : List Sending) → StandsInOrder size (flat_map block_parcels bs)
blocks_go size [] = λ sizes. tt
blocks_go size (s ∷ ss) =
    let rounds = flat_map round_parcels s.rounds in let others = flat_map block_parcels ss in
    let parted : map Work s.chunks ++ (rounds ++ End ∷ others) ≡ block_parcels s ++ others =
    sym (append_assoc (map Work s.chunks ++ rounds) (End ∷ []) others ∙ append_assoc (map Work s.chunks) rounds (End ∷ others)) in
    subst (StandsInOrder size) parted
    (chunks_go size s.chunks (rounds ++ End ∷ others) (rounds_go size s.rounds (End ∷ others) (λ sizes. ((refl, tt), blocks_go size ss sizes.1))))

pub front_of_lane : (size : ℕ) (ps : List Parcel) → IsLane size ps → BeginsLane size ps
front_of_lane size ps stands =
    let r = completed size false ps stands in (r.0, (r.1.0 ∷ r.1.1, r.1.2, r.2))

pub lane_of_front : (size : ℕ) (ps : List Parcel) → BeginsLane size ps → IsLane size ps
lane_of_front size ps (rest, (blocks, is, sizes)) =
    let go = blocks_go size blocks in
    StandsFrom-front size false ps rest (subst (StandsInOrder size) (sym is) go sizes)

lanes_are_fronts : LanesAreFronts
lanes_are_fronts size ps = (front_of_lane size ps, lane_of_front size ps)

next_keeps_form : NextKeepsForm
next_keeps_form size ps p front = (
  λ next. front_of_lane size (ps ++ p ∷ []) (StandsFrom-last size false ps p (lane_of_front size ps front) next),
  λ longer. MayFollow-last size false ps p (lane_of_front size (ps ++ p ∷ []) longer),
)

pub lane_laws : LaneLaws
lane_laws = record { lanes = lanes_are_fronts; next = next_keeps_form; fronts = λ size front rest. StandsFrom-front size false front rest }
