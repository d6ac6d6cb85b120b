use Rattle.qs_played.specs.audit.Schedule.{actors_of, rounds_of}
use Rattle.qs_plain.proofs.ReachedPlays.{reached_plays}
use Rattle.qs_plain.proofs.rules.Rules.play_rounds.Goals as goal

pub invariant_of-self : goal.invariant_of-self
invariant_of-self c =
    let old = c.self.inside.machine in
    reached_plays old c.play_rounds.new.self (rounds_of c.args.rounds (actors_of old.program)) c.self.invariant c.play_rounds.ensures.rounds c.play_rounds.ensures.program
