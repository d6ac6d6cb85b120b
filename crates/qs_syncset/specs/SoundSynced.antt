-- What a client that goes along a tree with synchronisations may rely on.
use Rattle.std.specs.Prelude.{◌≡◌, ℕ, ℤ, true, false, List}
use Rattle.qs_meaning.specs.audit.Solo.{put}
use Rattle.qs_program.specs.audit.Sound.{is_in}
use Rattle.qs_graph.specs.audit.Synced.{Synced, Done, Call, Sync, Query}
use Rattle.qs_syncset.specs.held.Flow.{Holding}

-- from what the client holds, each query is on an object that it holds then: a synchronisation gives the object, and a
-- call sends it home
abbrev pub IsSoundSynced : Holding → Synced → Type 0
IsSoundSynced held (Done l) = Unit {0}
IsSoundSynced held (Call r next) = IsSoundSynced (put held r.object false) next
IsSoundSynced held (Sync h next) = IsSoundSynced (put held h true) next
IsSoundSynced held (Query r next) = (held r.object ≡ true) × ((v : ℤ) → IsSoundSynced held (next v))

-- all requests and synchronisations are on handlers of the list
abbrev pub IsOnReserved : List ℕ → Synced → Type 0
IsOnReserved reserved (Done l) = Unit {0}
IsOnReserved reserved (Call r next) = (is_in reserved r.object ≡ true) × IsOnReserved reserved next
IsOnReserved reserved (Sync h next) = (is_in reserved h ≡ true) × IsOnReserved reserved next
IsOnReserved reserved (Query r next) = (is_in reserved r.object ≡ true) × ((v : ℤ) → IsOnReserved reserved (next v))
