-- Where a stretch ends, and what its entries are: the loop over the stretches of a row stands on it. Each is the
-- definition, once the numbers and lists that the code has at hand are those of the run.
use Rattle.qs_svg.proofs.Common.{◌≡◌, ℕ, suc, ◌+◌, ◌-◌, min, List, [], ◌∷◌, length, slice_range, ap, ap₂, refl, ◌∙◌, State, after, Entry, Ticket, ProgramShape, Played, fates_from, fates_of, Fate}
use Rattle.qs_svg.proofs.Common.{entries_for, journal_of, ticket_at, stretch, stretch_fates, stretch_start, rules}

pub stretch_ends : (run : Played) (h i : ℕ) (journal : List Entry) (t : Ticket) (start count least : ℕ)
    → journal ≡ journal_of run h → t ≡ ticket_at run i → start ≡ stretch_start run h i → count ≡ entries_for t journal
    → least ≡ min count (length journal - start) → start + least ≡ stretch_start run h (suc i)
stretch_ends run h i journal t start count least j is begins counted l = search (rules)

pub stretch_of : (run : Played) (h i : ℕ) (journal : List Entry) (start end : ℕ) → journal ≡ journal_of run h → start ≡ stretch_start run h i
    → end ≡ stretch_start run h (suc i) → slice_range journal start end ≡ stretch run h i
stretch_of run h i journal start end j begins ends = search (rules)

fates_length : (s : State) (es : List Entry) → length (fates_from s es) ≡ length es
fates_length s [] = refl
fates_length s (e ∷ es) = ap suc (fates_length (after s e.request) es)

-- of each request of a journal it is said what became of it
pub fates_of_length : (p : ProgramShape) (run : Played) (h : ℕ) → length (fates_of p run h) ≡ length (journal_of run h)
fates_of_length p run h = fates_length _ (journal_of run h)

pub fates_of_stretch : (p : ProgramShape) (run : Played) (h i : ℕ) (fates : List Fate) (start end : ℕ) → fates ≡ fates_of p run h → start ≡ stretch_start run h i
    → end ≡ stretch_start run h (suc i) → slice_range fates start end ≡ stretch_fates p run h i
fates_of_stretch p run h i fates start end f begins ends = search (rules)
