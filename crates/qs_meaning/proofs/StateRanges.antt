-- Objects begin in range, and no request leads out of it; so they are in range after any order of blocks. By this a row
-- of the search tells which configuration it is. It goes by induction on the order.
use Rattle.std.proofs.Common.{◌≡◌, List, [], ◌∷◌, Option, Some, None, refl}
use Rattle.qs_meaning.proofs.Common.{begins_in_range, block_at, Declared, IsSome, IsSound, Kind, no_object, object_at, ProgramShape, Request, starts, State, stays_in_range, Ticket}
use Rattle.qs_objects.specs.Objects.{IsInRange}
use Rattle.qs_meaning.specs.audit.Configurations.{Configuration, configuration_from, first_configuration, one_block_on}
use Rattle.qs_meaning.specs.audit.Serial.{declared_states, state_or_none}
use Rattle.qs_meaning.specs.StateRanges.{AreInRange, OrdersKeepRanges}
use Rattle.qs_meaning.proofs.AlikeTraces.{all_at}
use Rattle.qs_meaning.proofs.StatesKept.{solo_keeps}

start_range : (kind : Kind) (m : Option State) → starts kind ≡ m → IsSome m → IsInRange (state_or_none m).content
start_range kind (Some s) begins some = begins_in_range kind s begins
start_range kind None begins some = cc

declared_ranges : (p : ProgramShape) → IsSound p → AreInRange (declared_states p)
declared_ranges p sound h =
    start_range (object_at p h).kind (starts (object_at p h).kind) refl (all_at (λ (o : Declared). IsSome (starts o.kind)) p.objects h no_object sound.kinds refl)

ranges_from : (p : ProgramShape) (g : Configuration) (ts : List Ticket) → AreInRange g.states → AreInRange (configuration_from p g ts).states
ranges_from p g [] are = are
ranges_from p g (t ∷ ts) are =
    ranges_from p (one_block_on p t.client g) ts
    (solo_keeps (λ h s. IsInRange s.content) (λ h (s : State) (r : Request) in_range. stays_in_range s r.op r.args in_range)
    (block_at p t.client (g.begun t.client)).body (g.locals t.client) g.states are)

pub orders_keep_ranges : OrdersKeepRanges
orders_keep_ranges p sound order = ranges_from p (first_configuration p) order (declared_ranges p sound)
