use Rattle.std.proofs.Common.{false, List, [], ◌∷◌, ◌++◌, Some, None, Option, ℕ, rules}
use Rattle.std.specs.Prelude.{IfSome}
use Rattle.qs_chunk.proofs.LaneFronts.{MayFollow-last}
use Rattle.qs_chunk.specs.audit.Lanes.{is_asked}
use Rattle.qs_chunk.specs.Lanes.{IsLane, MayFollow}
use Rattle.qs_chunk.specs.declared.parcel.Parcel.{Parcel}
use Rattle.qs_lane.proofs.lane_ends.LaneIn.try_take.Goals as goal

stands : (r : Option Parcel) (size : ℕ) (received : List Parcel) → IfSome r (λ p. IsLane size (received ++ p ∷ [])) → IfSome r (λ p. MayFollow size (is_asked false received) p)
stands None size received is = tt
stands (Some p) size received is = MayFollow-last size false received p is

pub returns-clause-follows : goal.returns-clause-follows
returns-clause-follows g c = search (rules, stands)
