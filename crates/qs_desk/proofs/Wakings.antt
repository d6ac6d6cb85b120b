-- What a loop over what wakes handlers has done, turn by turn: whatever is woken by the rest of it makes, together with
-- what was woken so far, all that is to be woken. It goes by induction on the number of turns.
use Rattle.std.proofs.Common.{◌≡◌, ℕ, zero, suc, ◌+◌, ◌<◌, Bool, true, false, List, [], ◌∷◌, length, drop, slice_index_or, sym, subst, ◌∙◌, arith, rules}
use Rattle.qs_desk.specs.Wakings.{AreWoken, IsWokenIf}

-- after n turns the log has come from `log` to `now`
abbrev pub Leads : {L W : Type 0} → (W → L → L → Type 0) → List W → List Bool → ℕ → L → L → Type 0
Leads {L} moves ws told n log now = (end : L) → AreWoken moves (drop n ws) (drop n told) now end → AreWoken moves ws told log end

none : {L W : Type 0} (moves : W → L → L → Type 0) (ws : List W) (log end : L) → AreWoken moves ws [] log end → log ≡ end
none moves [] log end same = same
none moves (w ∷ ws) log end same = same

no_more : {L W : Type 0} (moves : W → L → L → Type 0) (ws : List W) (log end : L) → log ≡ end → AreWoken moves ws [] log end
no_more moves [] log end same = same
no_more moves (w ∷ ws) log end same = same

one_turn : {L W : Type 0} (moves : W → L → L → Type 0) (ws : List W) (told : List Bool) (n : ℕ) (d : W) (log then end : L) → n < length ws
    → IsWokenIf moves (slice_index_or ws n d) (slice_index_or told n false) log then → AreWoken moves (drop (suc n) ws) (drop (suc n) told) then end
    → AreWoken moves (drop n ws) (drop n told) log end
one_turn moves [] told n d log then end less step rest = absurd (omega (arith, less))
one_turn moves (w ∷ ws) [] zero d log then end less step rest = step ∙ none moves ws then end rest
one_turn moves (w ∷ ws) (true ∷ told) zero d log then end less step rest = (then, step, rest)
one_turn moves (w ∷ ws) (false ∷ told) zero d log then end less step rest = subst (λ l. AreWoken moves ws told l end) (sym step) rest
one_turn moves (w ∷ ws) [] (suc n) d log then end less step rest = no_more moves (drop n ws) log end (step ∙ none moves (drop (suc n) ws) then end rest)
one_turn moves (w ∷ ws) (t ∷ told) (suc n) d log then end less step rest = one_turn moves ws told n d log then end (omega (arith, less)) step rest

pub leads_on : {L W : Type 0} (moves : W → L → L → Type 0) (ws : List W) (told : List Bool) (n : ℕ) (d : W) (log now then : L) → n < length ws
    → IsWokenIf moves (slice_index_or ws n d) (slice_index_or told n false) now then → Leads moves ws told n log now → Leads moves ws told (n + 1) log then
leads_on moves ws told n d log now then less step leads end rest = search (rules, one_turn, drop)
