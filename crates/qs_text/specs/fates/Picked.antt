-- The fates of a ticket's requests, among those of whole journals.
use Rattle.std.specs.Prelude.{ℕ, if◌then◌else◌, nat_lt, List, [], ◌∷◌, ◌++◌, length, drop, slice_index_or}
use Rattle.qs_objects.specs.audit.Parts.{same}
use Rattle.qs_objects.specs.declared.held.Entry.{Entry}
use Rattle.qs_objects.specs.declared.held.Ticket.{Ticket}
use Rattle.qs_played.specs.audit.Isolation.{journal_of}
use Rattle.qs_played.specs.audit.Played.{Played}
use Rattle.qs_text.specs.declared.fates.fate.Fate.{Fate}

-- those of the fates whose entry, at the same place of the journal, is of this ticket
abbrev pub picked : Ticket → List Entry → List Fate → List Fate
picked t [] fates = []
picked t (e ∷ es) [] = []
picked t (e ∷ es) (f ∷ fs) = (if same t e.ticket then f ∷ [] else []) ++ picked t es fs

-- the same from a place of the journal on
abbrev pub picked_from : Ticket → List Entry → List Fate → ℕ → List Fate
picked_from t journal fates place = picked t (drop place journal) (drop place fates)

-- what is left of a ticket's fates on an object, from the object's place in a list of places on
abbrev pub left_on : Played → List (List Fate) → Ticket → List ℕ → ℕ → List Fate
left_on run fates t places h =
    if nat_lt h (length fates)
    then picked_from t (journal_of run h) (slice_index_or fates h []) (slice_index_or places h 0)
    else []
