use Rattle.qs_levels.proofs.Common.{◌≡◌, ◌%◌, [], ◌∷◌, ap, length, subst, sym, ◌∙◌, begun_counts, found_in, weighted, AreGoing, weight, Going, rules}
use Rattle.qs_levels.proofs.fronts.first_level.Goals as goal

pub returns-clause-going : goal.returns-clause-going
returns-clause-going c =
    let share =
    c.share_of.ensures.share
    ∙ (ap (λ begun. weighted weight (length begun) (begun_counts begun) % c.args.count) c.begun.ensures.begun
    ∙ ap (λ n. weighted weight n (begun_counts c.args.first.begun) % c.args.count) c.requires.first.standing.begun) in
    rw (c.in_ok-level.ensures.standings, c.in_ok-part.ensures.found, c.in_ok-level.ensures.going) (record { clients = c.goes_on.ensures.goes; share = share }, tt)
