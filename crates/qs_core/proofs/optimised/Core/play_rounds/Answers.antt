use Rattle.std.proofs.Common.{◌≡◌, ◌+◌, ◌-◌, sym, subst, arith}
use Rattle.qs_played.specs.audit.Schedule.{actors_of, rounds_of}
use Rattle.qs_core.proofs.Names.{CoreState, CoreGoes}
use Rattle.qs_core.proofs.CoreGoing.{goes_none, round_on, still_rounds}
use Rattle.qs_core.proofs.optimised.Core.play_rounds.Goals as goal

pub loop-round-init : goal.loop-round-init
loop-round-init c = goes_none c.args.self.now

pub loop-round-preserved : goal.loop-round-preserved
loop-round-preserved c = round_on c.args.self.now c.loop-round.self c.round.new.self c.loop-round._round c.loop-round.invariant c.round.ensures.goes

pub returns : goal.returns
returns c =
    let s = c.args.self.now in
    let all_rounds : c.loop-round._round ≡ c.args.rounds = omega (arith, c.loop-round-test.false, c.loop-round.auto._round-end) in
    record { goes = subst (λ n. CoreGoes s (rounds_of n (actors_of s.program)) c.loop-round.self) all_rounds c.loop-round.invariant }

pub returns-then-not-round : goal.returns-then-not-round
returns-then-not-round c =
    let s = c.args.self.now in
    let n = c.loop-round._round in
    let now = c.loop-round.self in
    let same = c.round.ensures.unchanged c.if-not-round.true in
    let all_rounds : n + (c.args.rounds - n) ≡ c.args.rounds = omega (arith, c.loop-round-test.true) in
    let still = subst (λ (t : CoreState). CoreGoes now (actors_of now.program) t) same c.round.ensures.goes in
    record {
      goes = subst (λ m. CoreGoes s (rounds_of m (actors_of s.program)) c.round.new.self) all_rounds
          (subst (λ (t : CoreState). CoreGoes s (rounds_of (n + (c.args.rounds - n)) (actors_of s.program)) t) (sym same)
          (still_rounds s now n (c.args.rounds - n) still c.loop-round.invariant));
    }
