-- Where all is finished nobody has a step: each client stands behind its last block, and each handler is free with no
-- ticket before it. So enough rounds finish, as for every machine that is never stuck and makes few steps (`Rounds` of
-- `qs_plain_laws`).
use Rattle.std.proofs.Common.{◌≡◌, ◌<◌, ◌∙◌, ◌&&◌, ℕ, Bool, true, false, true≢false, nat_eq, nat_lt, List, [], ◌∷◌, None, Ok, length, refl, sym, ap, arith, rules}
use Rattle.qs_played.proofs.Names.{range_with_len, Ticket, and_cases, ProgramShape, blocks_of, IsSound, Played, most_rounds}
use Rattle.qs_played.specs.declared.schedule.actor.Actor.{Actor}
use Rattle.qs_core_laws.proofs.Names.{Mode, ClientCode, AreCodes, blocks_in, Handler, free, serves, spares, gives, away, closed, is_free, is_between, ClientStage, act_of, Act, Finished, Core, client_step, core_begin, core_step, handler_step, settings_of, takes_ticket, CoreStands, all_of, core_plays, is_done, is_finished, is_idle, most_core_steps_of}
use Rattle.qs_handler.specs.audit.Handler as handlers
use Rattle.qs_played.specs.declared.schedule.actor.Actor.TheVariants as actor
use Rattle.qs_plain_laws.proofs.progress.Rounds.{enough_rounds}
use Rattle.qs_core_laws.proofs.protocol.ActObjects.{between_acts}
use Rattle.qs_core_laws.specs.CoreSchedule.{IsPlayedIn, core_scheduled}
use Rattle.qs_core_laws.proofs.protocol.ProgramTrees.{blocks_are}
use Rattle.qs_core_laws.proofs.CoreIsolating.{all_of_at}
use Rattle.qs_core_laws.proofs.CoreReached.{reached_keeps}
use Rattle.qs_core_laws.specs.progress.CoreFinishing.{CoreEnoughRoundsFinish, CoreFinishedRunsStay}
use Rattle.qs_core_laws.proofs.progress.Bounded.{core_steps_bounded}
use Rattle.qs_core_laws.proofs.progress.SmallBounds.{core_bounds_small}
use Rattle.qs_core_laws.proofs.progress.Stuck.{core_runs_never_stuck, stands_of}

-- ---- where all is finished

no_tickets : (ts : List Ticket) → nat_eq (length ts) 0 ≡ true → ts ≡ []
no_tickets [] e = refl
no_tickets (t ∷ ts) e = absurd (let long : length (t ∷ ts) ≡ 0 = grind (arith, e) in omega (arith, long))

module _ (p : ProgramShape) (sound : IsSound p) (mode : Mode) (code : ℕ → ClientCode) (codes : AreCodes p mode code) (size : ℕ) where
  module _ (s : Core) (st : CoreStands p code size s) (finished : is_finished p s ≡ true) where
    abbrev both : (all_of (is_done p s) (range_with_len 0 (length p.clients)) ≡ true) × (all_of (is_idle p s) (range_with_len 0 (length p.objects)) ≡ true)
    both =
        and_cases (all_of (is_done p s) (range_with_len 0 (length p.clients))) (all_of (is_idle p s) (range_with_len 0 (length p.objects))) finished

    abbrev asks_for : ℕ → Act
    asks_for c = act_of (settings_of code size c) (blocks_in code c) (s.client c)

    done_asks : (c : ℕ) (pl : ClientStage) → (s.client c).stage ≡ pl → is_between pl ≡ true
        → (s.client c).begun ≡ blocks_of p c → asks_for c ≡ Finished
    done_asks c pl at out all = search (rules, blocks_are, between_acts)

    client_none : (c : ℕ) (b : Bool) → nat_lt c (length p.clients) ≡ b → core_step code size s (actor.Client c) ≡ None
    client_none c false out = st.others.steps c (grind (arith, out))
    client_none c true less =
        let done = all_of_at (is_done p s) 0 (length p.clients) c both.0 (omega arith) (let l : c < length p.clients = grind (arith, less) in omega (arith, l)) in
        let parts = and_cases (is_between (s.client c).stage) (nat_eq (s.client c).begun (blocks_of p c)) done in
        let number = parts.1 in
        ap (client_step code size s c) (done_asks c (s.client c).stage refl parts.0 (grind (arith, number)))

    free_none : (h : ℕ) (v : Handler) → s.handler h ≡ v → is_free v ≡ true → s.tickets h ≡ []
        → core_step code size s (actor.Handler h) ≡ None
    free_none h v is whole none = search (rules, true≢false)

    handler_none : (h : ℕ) (b : Bool) → nat_lt h (length p.objects) ≡ b → core_step code size s (actor.Handler h) ≡ None
    handler_none h false out = grind (arith, free_none, st)
    handler_none h true less =
        let idle = all_of_at (is_idle p s) 0 (length p.objects) h both.1 (omega arith) (let l : h < length p.objects = grind (arith, less) in omega (arith, l)) in
        let parts = and_cases (is_free (s.handler h) && nat_eq (length (s.tickets h)) 0) (all_of (λ c. nat_eq (length (s.down c h)) 0) (range_with_len 0 (length p.clients))) idle in
        let first = and_cases (is_free (s.handler h)) (nat_eq (length (s.tickets h)) 0) parts.0 in
        free_none h (s.handler h) refl first.0 (no_tickets (s.tickets h) first.1)

    nobody_steps : (a : Actor) → core_step code size s a ≡ None
    nobody_steps v = search (rules, client_none, handler_none)

pub core_finished_stay : CoreFinishedRunsStay
core_finished_stay p sound mode code codes size actors finished a =
    let s = core_plays code size actors (core_begin p) in
    let stands = stands_of p code size s (reached_keeps p sound mode code codes size actors) in
    nobody_steps p sound mode code codes size s stands finished a

pub core_rounds_finish : CoreEnoughRoundsFinish
unfolding core_scheduled
core_rounds_finish p sound mode size picks rounds many shown played =
    let run = played.2 in
    let code = run.0 in
    let codes = run.1 in
    ap (λ r. r.finished) run.2
    ∙ enough_rounds p (core_step code size) (core_begin p) (is_finished p)
    (λ actors over. core_finished_stay p sound mode code codes size actors over)
    (core_runs_never_stuck p sound mode code codes size)
    (most_core_steps_of p) (core_steps_bounded p sound mode code codes size) picks rounds many

-- as many rounds as a command line plays by default are enough
pub core_default_rounds_finish : (p : ProgramShape) → IsSound p → (mode : Mode) (size : ℕ) (picks : List Actor)
    (rounds : ℕ) (shown : Played) → IsPlayedIn p mode size picks rounds (Ok shown) → rounds ≡ most_rounds
    → shown.finished ≡ true
core_default_rounds_finish p sound mode size picks rounds shown played all =
    let few = core_bounds_small p sound in
    core_rounds_finish p sound mode size picks rounds (omega (arith, few, all)) shown played
