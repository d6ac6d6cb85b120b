-- When the line of one more object with its count of synchronisations is written, the text has the lines of the objects
-- up to there. The loop of `put_syncs`, which goes through the objects and their counts side by side, stands on it. The
-- object and its count stand at one index of the rows, and then one more piece of the text is done.
use Rattle.std.proofs.Common.{◌≡◌, ℕ, ◌<◌, ◌+◌, List, [], ◌∷◌, ◌++◌, flat_map, length, map, take, ap, ap₂, ◌∙◌, get_or, sym, arith}
use Rattle.std.proofs.lemmas.List.{get_or-map, length-append, length-map}
use Rattle.qs_program.specs.audit.Program.{ProgramShape}
use Rattle.qs_sync_counts.specs.declared.sync_counts.SyncCount.{SyncCount}
use Rattle.qs_sync_counts.specs.audit.SyncRows.{count_of, object_of, sync_count}
use Rattle.qs_report.specs.audit.Report.{sync_line}
use Rattle.qs_text.proofs.Joined.{one_item_more}

-- an object with its count stands at its place among all
sync_at : (rows : List SyncCount) (n object count : ℕ) → n < length (map object_of rows) → object ≡ get_or (map object_of rows) n 0
    → count ≡ get_or (map count_of rows) n 0 → sync_count object count ≡ get_or rows n (sync_count 0 0)
sync_at rows n object count within o k =
    let inside : n < length rows = omega (arith, within, length-map rows object_of) in
    ap₂ sync_count (o ∙ get_or-map object_of rows n (sync_count 0 0) 0 inside) (k ∙ get_or-map count_of rows n (sync_count 0 0) 0 inside)

-- the line of one object more
pub one_sync_more : {X : Type 0} (p : ProgramShape) (rows : List SyncCount) (done : List X) (x : X) (object count : ℕ) (first before after : List ℕ)
    → length done < length (map object_of rows)
    → object ≡ get_or (map object_of rows) (length done) 0 → count ≡ get_or (map count_of rows) (length done) 0
    → before ≡ first ++ flat_map (sync_line p) (take (length done) rows) → after ≡ before ++ sync_line p (sync_count object count)
    → after ≡ first ++ flat_map (sync_line p) (take (length (done ++ x ∷ [])) rows)
one_sync_more p rows done x object count first before after within o k e h =
    let next : length (done ++ x ∷ []) ≡ length done + 1 = length-append done (x ∷ []) in
    let inside : length done < length rows = omega (arith, within, length-map rows object_of) in
    one_item_more (sync_line p) rows (length done) (sync_count 0 0) first before after inside e
    (h ∙ ap (λ s. before ++ sync_line p s) (sync_at rows (length done) object count within o k))
    ∙ ap (λ n. first ++ flat_map (sync_line p) (take n rows)) (sym next)
