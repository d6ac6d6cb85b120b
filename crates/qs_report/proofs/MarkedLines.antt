-- There is a fate for each request of a trace. `put_marked_trace` hands both lists to the loop that writes the lines,
-- which goes through them side by side. It follows the recursion by which the fates are defined.
use Rattle.std.proofs.Common.{◌≡◌, ℕ, suc, List, [], ◌∷◌, ◌++◌, length, refl, ap}
use Rattle.qs_objects.specs.declared.held.Event.{Event}
use Rattle.qs_program.specs.audit.Program.{ProgramShape}
use Rattle.qs_played.specs.audit.Isolation.{trace_of}
use Rattle.qs_played.specs.audit.Played.{Played}
use Rattle.qs_text.specs.audit.fates.Fates.{fates_along, trace_fates}

along : (p : ProgramShape) (run : Played) (i : ℕ) (before rest : List Event) → length (fates_along p run i before rest) ≡ length rest
along p run i before [] = refl
along p run i before (e ∷ es) = ap (λ n. suc n) (along p run i (before ++ e ∷ []) es)

-- a trace has as many fates as requests
pub length-trace_fates : (p : ProgramShape) (run : Played) (i : ℕ) → length (trace_fates p run i) ≡ length (trace_of run i)
length-trace_fates p run i = along p run i [] (trace_of run i)
