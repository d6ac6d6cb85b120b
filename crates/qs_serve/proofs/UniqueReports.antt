-- By picks and rounds one text alone is the report that a line asks for: a text is one script's, the picks name the same
-- actors, and a run by them is determined.
use Rattle.std.proofs.Common.{◌≡◌, ℕ, List, Ok, sym, subst}
use Rattle.qs_check.specs.audit.resolution.Resolve.{program_of_items}
use Rattle.qs_line.specs.audit.Line.{Request, by_schedule, play, rules}
use Rattle.qs_line.specs.audit.Named.{actors_of}
use Rattle.qs_played.specs.audit.Played.{Played}
use Rattle.qs_program.specs.audit.Program.{ProgramShape}
use Rattle.qs_promises.proofs.Determined.{determined}
use Rattle.qs_promises.specs.Determined.{IsByPicks}
use Rattle.qs_promises.specs.audit.Runs.{IsRun, Way}
use Rattle.qs_script.proofs.ReadTexts.{one_script}
use Rattle.qs_script.proofs.grammar.Readings.{both_ok}
use Rattle.qs_serve.proofs.Headlines.{named}
use Rattle.qs_serve.specs.Headline.{IsBySchedule, ReportsAreUnique}
use Rattle.qs_serve.specs.audit.Headline.{IsAskedFor}

-- a line asks for a run in one way
one_way : (request : Request) (p : ProgramShape) (way other : Way) (r s : Played) → IsBySchedule request
    → IsAskedFor request p way r → IsAskedFor request p other s → (way ≡ other) × IsByPicks way
one_way (rules style (by_schedule rounds picks)) p way other r s by a b =
    let its = named (actors_of p picks) _ a in
    let others = named (actors_of p picks) _ b in
    let actors : its.0 ≡ others.0 = both_ok (actors_of p picks) its.0 others.0 its.1 others.1 in
    (cc (its.2, others.2, actors), subst IsByPicks (sym its.2) tt)
one_way (play style mode size (by_schedule rounds picks)) p way other r s by a b =
    let its = named (actors_of p picks) _ a in
    let others = named (actors_of p picks) _ b in
    let actors : its.0 ≡ others.0 = both_ok (actors_of p picks) its.0 others.0 its.1 others.1 in
    (cc (its.2, others.2, actors), subst IsByPicks (sym its.2) tt)
one_way _ p way other r s by a b = absurd by

pub one_report : ReportsAreUnique
one_report request style text old one other by steps queues a b =
    let p = program_of_items a.script in
    let same : b.script ≡ a.script = one_script text b.script a.script b.read a.read in
    let asked = subst (λ s. IsAskedFor request (program_of_items s) b.way b.shown) same b.asked in
    let ran = subst (λ s. IsRun (program_of_items s) b.way b.shown) same b.is_run in
    let ways = one_way request p a.way b.way a.shown b.shown by a.asked asked in
    let shown : a.shown ≡ b.shown =
    determined p a.way a.shown b.shown ways.1 a.is_run (subst (λ w. IsRun p w b.shown) (sym ways.0) ran) in
    cc (a.written, b.written, same, shown, a.no_steps steps, b.no_steps steps, a.no_queues queues, b.no_queues queues)
