-- Of any trace: the queries that come first on an object or directly after a command there are not more than the
-- queries.
use Rattle.std.proofs.Common.{◌≡◌, ◌≤◌, ℕ, suc, ◌+◌, Bool, true, false, if◌then◌else◌, List, [], ◌∷◌, length, refl, arith, filter}
use Rattle.qs_objects.specs.audit.Parts.{part}
use Rattle.qs_objects.specs.declared.held.Event.{Event}
use Rattle.qs_syncset.specs.SyncCounts.{asks, first_queries, queries, runs}

-- a query that comes first or after a command is one of the queries
first_within : (asked : Bool) (es : List Event) → first_queries asked es ≤ length (filter asks es)
first_within asked [] = omega arith
first_within asked (e ∷ es) = by_event (asks e) refl (first_within true es) (first_within false es)
  where
    by_asked : (a : Bool) → first_queries true es ≤ length (filter asks es) → (if a then 0 else 1) + first_queries true es ≤ suc (length (filter asks es))
    by_asked true rest = omega (arith, rest)
    by_asked false rest = omega (arith, rest)

    by_event : (b : Bool) → asks e ≡ b → first_queries true es ≤ length (filter asks es) → first_queries false es ≤ length (filter asks es)
        → first_queries asked (e ∷ es) ≤ length (filter asks (e ∷ es))
    by_event true is after before = rw is (by_asked asked after)
    by_event false is after before = rw is before

pub runs_within : (h : ℕ) (es : List Event) → runs h es ≤ queries h es
runs_within h es = first_within false (part h es)
