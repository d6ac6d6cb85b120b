use Rattle.std.proofs.Common.{◌≡◌, ◌+◌, ◌-◌, [], ◌∙◌, ap, sym, arith}
use Rattle.qs_played.specs.audit.Schedule.{actors_of, rounds_of}
use Rattle.qs_plain_laws.specs.audit.PlainSchedule.{plays}
use Rattle.qs_plain.specs.Rules.{plain_of}
use Rattle.qs_plain.proofs.Playing.{plays-round, plays-still}
use Rattle.qs_plain.proofs.machine.Machine.play_rounds.Goals as goal

pub loop-round-preserved : goal.loop-round-preserved
loop-round-preserved c =
    let s = c.args.self.now in
    record {
      program = c.round.ensures.program ∙ c.loop-round.invariant.program;
      value = c.round.ensures.round
          ∙ (λ k. plays (c.loop-round.invariant.program k) (actors_of (c.loop-round.invariant.program k)) (c.loop-round.invariant.value k))
          ∙ sym (plays-round s.program [] c.loop-round._round (plain_of s));
    }

pub returns-clause-rounds : goal.returns-clause-rounds
returns-clause-rounds c =
    let s = c.args.self.now in
    let all_rounds : c.loop-round._round ≡ c.args.rounds = omega (arith, c.loop-round-test.false, c.loop-round.auto._round-end) in
    c.loop-round.invariant.value ∙ ap (λ n. plays s.program (rounds_of n (actors_of s.program)) (plain_of s)) all_rounds

pub returns-then-not-round-clause-rounds : goal.returns-then-not-round-clause-rounds
returns-then-not-round-clause-rounds c =
    let s = c.args.self.now in
    let n = c.loop-round._round in
    let invariant = c.loop-round.invariant in
    let same = ap plain_of (c.round.ensures.unchanged c.if-not-round.true) in
    let still : plays s.program (actors_of s.program) (plays s.program (rounds_of n (actors_of s.program)) (plain_of s)) ≡ plays s.program (rounds_of n (actors_of s.program)) (plain_of s) =
    sym (λ k. plays (invariant.program k) (actors_of (invariant.program k)) (invariant.value k)) ∙ sym c.round.ensures.round ∙ same ∙ invariant.value in
    let all_rounds : n + (c.args.rounds - n) ≡ c.args.rounds = omega (arith, c.loop-round-test.true) in
    same
    ∙ invariant.value
    ∙ sym (plays-still s.program n (c.args.rounds - n) (plain_of s) still)
    ∙ ap (λ m. plays s.program (rounds_of m (actors_of s.program)) (plain_of s)) all_rounds
