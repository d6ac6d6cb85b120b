-- In an isolated run a journal is its tickets' entries one after another, in the order of the reservations. So where
-- the stretches before a ticket's are cut off, what is left begins with all of its entries: by induction on the place
-- of the ticket. And what a journal does, its stretches do one after another.
use Rattle.qs_svg.proofs.Common.{◌≡◌, ℕ, zero, suc, ◌+◌, ◌-◌, ◌<◌, ◌≤◌, min, Bool, true, false, if◌then◌else◌, List, [], ◌∷◌, ◌++◌, length, take, drop, flat_map, refl, sym, subst, true≢false, ⊎_elim}
use Rattle.qs_svg.proofs.Common.{ap, ap₂, ◌∙◌, arith, length-append, drop-drop, length-drop, map-append, drop-append_seam, drop-cons, take-append_seam, drop_split, replay, unstamp, without_tickets}
use Rattle.qs_svg.proofs.Common.{Entry, Ticket, ProgramShape, Played, first_ticket, entries_for, journal_of, state_at, stretch, stretch_start, ticket_at}
use Rattle.std.proofs.lemmas.List.Sums.{length-filter}
use Rattle.std.proofs.Math.ListN.{drop_of_length-le}
use Rattle.qs_meaning.specs.audit.Serial.{declared_states}
use Rattle.qs_objects.proofs.Choices.{ticket_cases}
use Rattle.qs_objects.proofs.Replays.{replay-append}
use Rattle.qs_objects.specs.audit.Parts.{entries_of, same}
use Rattle.qs_played.specs.Isolation.{IsIsolated}
use Rattle.qs_svg.specs.OneColour.{AreOfColour, AreRowsOfWholeBlocks}

same_is : (t u : Ticket) → same t u ≡ true → t ≡ u
same_is t u e = ⊎_elim (λ (is : t ≡ u). is) (λ (other : same t u ≡ false). absurd (true≢false (sym e ∙ other))) (ticket_cases t u)

-- entries of a ticket are in its client's colour
one_of_colour : (t : Ticket) (x : Entry) (b : Bool) (rest : List Entry) → (b ≡ true → t ≡ x.ticket) → AreOfColour t.client rest
    → AreOfColour t.client (if b then x ∷ rest else rest)
one_of_colour t x true rest is all = (ap (λ (u : Ticket). u.client) (sym (is refl)), all)
one_of_colour t x false rest is all = all

of_colour : (t : Ticket) (journal : List Entry) → AreOfColour t.client (entries_of t journal)
of_colour t [] = tt
of_colour t (x ∷ xs) = one_of_colour t x (same t x.ticket) (entries_of t xs) (same_is t x.ticket) (of_colour t xs)

module _ (run : Played) (h : ℕ) (order : journal_of run h ≡ flat_map (λ t. entries_of t (journal_of run h)) run.order) where
  abbrev own : Ticket → List Entry
  own t = entries_of t (journal_of run h)

  -- what is left from a ticket on begins with its entries
  begins_with : (i : ℕ) → i < length run.order → drop (stretch_start run h i) (journal_of run h) ≡ flat_map own (drop i run.order)
      → drop (stretch_start run h i) (journal_of run h) ≡ own (ticket_at run i) ++ flat_map own (drop (suc i) run.order)
  begins_with i within left = left ∙ ap (flat_map own) (drop-cons run.order i first_ticket within)

  -- and so the stretch takes them all
  taken : (i : ℕ) → i < length run.order → drop (stretch_start run h i) (journal_of run h) ≡ flat_map own (drop i run.order)
      → min (entries_for (ticket_at run i) (journal_of run h)) (length (journal_of run h) - stretch_start run h i) ≡ length (own (ticket_at run i))
  taken i within left =
      omega (
        arith,
        length-filter (λ (e : Entry). same (ticket_at run i) e.ticket) (journal_of run h),
        length-drop (stretch_start run h i) (journal_of run h),
        ap length (begins_with i within left),
        length-append (own (ticket_at run i)) (flat_map own (drop (suc i) run.order)),
      )

  left_from : (i : ℕ) → i ≤ length run.order → drop (stretch_start run h i) (journal_of run h) ≡ flat_map own (drop i run.order)
  left_from zero within = order
  left_from (suc i) within =
      let before = left_from i (omega arith) in
      let rest = flat_map own (drop (suc i) run.order) in
      ap (λ n. drop (stretch_start run h i + n) (journal_of run h)) (taken i (omega arith) before)
      ∙ sym (drop-drop (length (own (ticket_at run i))) (stretch_start run h i) (journal_of run h))
      ∙ ap (drop (length (own (ticket_at run i)))) (begins_with i (omega arith) before)
      ∙ drop-append_seam (own (ticket_at run i)) rest

  whole : (i : ℕ) → i < length run.order → stretch run h i ≡ own (ticket_at run i)
  whole i within =
      let before = left_from i (omega arith) in
      let rest = flat_map own (drop (suc i) run.order) in
      let size : stretch_start run h (suc i) - stretch_start run h i ≡ length (own (ticket_at run i)) = omega (arith, taken i within before) in
      ap₂ (λ n l. take n l) size (begins_with i within before) ∙ take-append_seam (own (ticket_at run i)) rest

  -- no stretch goes past the end
  within : (i : ℕ) → stretch_start run h i ≤ length (journal_of run h)
  within zero = omega arith
  within (suc i) = omega (arith, within i)

  all_taken : stretch_start run h (length run.order) ≡ length (journal_of run h)
  all_taken =
      let left = left_from (length run.order) (omega arith) ∙ ap (flat_map own) (drop_of_length-le run.order (omega arith)) in
      omega (arith, ap length left, length-drop (stretch_start run h (length run.order)) (journal_of run h), within (length run.order))

-- what is left to run from a stretch on leads where the whole journal does
runs_on : (p : ProgramShape) (run : Played) (h i : ℕ)
    → replay (state_at p run h i) (without_tickets (drop (stretch_start run h i) (journal_of run h)))
    ≡ replay (declared_states p h) (without_tickets (journal_of run h))
runs_on p run h zero = refl
runs_on p run h (suc i) =
    let journal = journal_of run h in
    let s = state_at p run h i in
    let own = stretch run h i in
    let rest = drop (stretch_start run h (suc i)) journal in
    let parts = ap without_tickets (drop_split journal (stretch_start run h i) (stretch_start run h (suc i)) (omega arith)) ∙ map-append unstamp own rest in
    sym (ap (replay s) parts ∙ replay-append s (without_tickets own) (without_tickets rest)) ∙ runs_on p run h i

pub rows_of_whole_blocks : AreRowsOfWholeBlocks
unfolding IsIsolated
rows_of_whole_blocks p run waits isolated h inside =
    let order = (isolated.objects h inside).order in
    let all = all_taken run h order in
    let none : drop (stretch_start run h (length run.order)) (journal_of run h) ≡ [] = drop_of_length-le (journal_of run h) (omega (arith, all)) in
    record {
      whole = λ i place. whole run h order i place;
      colour = λ i place. subst (AreOfColour (ticket_at run i).client) (sym (whole run h order i place)) (of_colour (ticket_at run i) (journal_of run h));
      all = all;
      last =
          sym (ap (λ (es : List Entry). replay (state_at p run h (length run.order)) (without_tickets es)) none)
          ∙ (runs_on p run h (length run.order) ∙ (isolated.objects h inside).replayed);
    }
