-- Which handlers a ticket reserves, as a booking tells it, and which handlers were woken.
use Rattle.std.specs.Prelude.{◌≡◌, ℕ, ◌<◌, Bool, true, false, List, [], ◌∷◌, length, slice_index_or}
use Rattle.qs_objects.specs.declared.held.Ticket as held
use Rattle.qs_meaning.specs.audit.Following.{reserves}
use Rattle.qs_program.specs.audit.Program.{ProgramShape}

-- `told` says of each handler whether the ticket's block reserves it
abbrev pub AreReserved : ProgramShape → held.Ticket → List Bool → Type 0
AreReserved p t told = (h : ℕ) → h < length p.objects → slice_index_or told h false ≡ reserves p t h

-- a handler that is told of was woken, and else nothing moved
abbrev pub IsWokenIf : {L W : Type 0} → (W → L → L → Type 0) → W → Bool → L → L → Type 0
IsWokenIf moves w true log then = moves w log then
IsWokenIf moves w false log then = log ≡ then

-- each handler that `told` names was woken, once and in their order, and no other, by what wakes it; where `moves` says
-- how a waking moves a log on
abbrev pub AreWoken : {L W : Type 0} → (W → L → L → Type 0) → List W → List Bool → L → L → Type 0
AreWoken moves [] told log end = log ≡ end
AreWoken moves (w ∷ ws) [] log end = log ≡ end
AreWoken moves (w ∷ ws) (false ∷ told) log end = AreWoken moves ws told log end
AreWoken {L} moves (w ∷ ws) (true ∷ told) log end = (then : L) × moves w log then × AreWoken moves ws told then end
