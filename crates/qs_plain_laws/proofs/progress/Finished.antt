-- Where all is finished nobody has a step: each client stands behind its last block, and each handler's queue is empty.
-- So enough rounds finish, as for every machine that is never stuck and makes few steps (`Rounds`).
use Rattle.std.proofs.Common.{◌≡◌, ◌∙◌, ℕ, ◌+◌, Bool, true, false, if◌then◌else◌, nat_eq, nat_lt, List, [], None, Ok, length, refl, ap, subst, arith, rules}
use Rattle.qs_played.proofs.Names.{and_cases, ProgramShape, blocks_of, IsSound, Played, most_rounds}
use Rattle.qs_played.specs.declared.schedule.actor.Actor.{Actor}
use Rattle.qs_played.specs.declared.schedule.actor.Actor.TheVariants as actor
use Rattle.qs_plain_laws.proofs.Names.{Client, Plain, StageOfClient, begin, begun_blocks, client_at, client_step, handler_at, queue_step, step, all_done, all_idle, is_done, is_finished, is_out, plays, most_steps_of}
use Rattle.qs_plain_laws.specs.PlainSchedule.{IsPlayed, scheduled}
use Rattle.qs_plain_laws.specs.progress.Finishing.{EnoughRoundsFinish, FairRunsFinish, FinishedRunsStay}
use Rattle.qs_plain_laws.proofs.Isolating.{done_at, idle_at}
use Rattle.qs_plain_laws.proofs.progress.Bounded.{steps_bounded}
use Rattle.qs_plain_laws.proofs.progress.Rounds.{enough_rounds, enough_turns}
use Rattle.qs_plain_laws.proofs.progress.SmallBounds.{bounds_small}
use Rattle.qs_plain_laws.proofs.progress.Stuck.{runs_never_stuck}

done_steps_none : (p : ProgramShape) (s : Plain) (c : ℕ) (it : Client) (g : StageOfClient) → is_out g ≡ true
    → begun_blocks it ≡ blocks_of p c → client_step p s c it g ≡ None
done_steps_none p s c it g e all = search rules

pub finished_stay : FinishedRunsStay
finished_stay p s finished (actor.Handler h) =
    ap (queue_step s h (handler_at s.handlers h))
    (idle_at s.handlers h (and_cases (all_done p 0 s.clients) (all_idle s.handlers) finished).1)
finished_stay p s finished (actor.Client c) = by_number (nat_lt c (length s.clients)) refl
  where
    by_number : (b : Bool) → nat_lt c (length s.clients) ≡ b
        → (if b then client_step p s c (client_at s c) (client_at s c).stage else None) ≡ None
    by_number false e = refl
    by_number true e =
        let same : 0 + c ≡ c = omega arith in
        let done : is_done p c (client_at s c) ≡ true =
        subst (λ k. is_done p k (client_at s c) ≡ true) same
        (done_at p 0 s.clients c (and_cases (all_done p 0 s.clients) (all_idle s.handlers) finished).0 (grind (arith, e))) in
        let both =
        and_cases (is_out (client_at s c).stage) (nat_eq (begun_blocks (client_at s c)) (blocks_of p c)) done in
        let number = both.1 in
        done_steps_none p s c (client_at s c) (client_at s c).stage both.0 (grind (arith, number))

pub rounds_finish : EnoughRoundsFinish
unfolding scheduled
rounds_finish p sound picks rounds many shown played =
    ap (λ r. r.finished) played.2
    ∙ enough_rounds p (step p) (begin p) (is_finished p)
    (λ actors over. finished_stay p (plays p actors (begin p)) over)
    (runs_never_stuck p sound) (most_steps_of p) (steps_bounded p sound) picks rounds many

-- as many rounds as a command line plays by default are enough
pub default_rounds_finish : (p : ProgramShape) → IsSound p → (picks : List Actor) (rounds : ℕ) (shown : Played)
    → IsPlayed p picks rounds (Ok shown) → rounds ≡ most_rounds → shown.finished ≡ true
default_rounds_finish p sound picks rounds shown played all =
    let few = (bounds_small p sound).rounds in
    rounds_finish p sound picks rounds (omega (arith, few, all)) shown played

pub fair_finish : FairRunsFinish
fair_finish p sound turns each many =
    enough_turns p (step p) (begin p) (is_finished p) (λ actors over. finished_stay p (plays p actors (begin p)) over)
    (runs_never_stuck p sound) (most_steps_of p) (steps_bounded p sound) [] turns each many
