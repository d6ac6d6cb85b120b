use Rattle.qs_levels.proofs.Common.{◌∙◌, ap, length, slice_index_or, subst, sym, configuration_in, goes_on, in_byte, in_none, StandingShape, zip_at, no_standing, tabled, IsGoing, rules, Going}
use Rattle.qs_levels.proofs.Keeping.{none_up_to}
use Rattle.qs_levels.proofs.meaning.Lists.{each_at}
use Rattle.qs_levels.proofs.leading.lead_place.Goals as goal

pub returns-then-taken-eq0-clause-led : goal.returns-then-taken-eq0-clause-led
returns-then-taken-eq0-clause-led c =
    let s = slice_index_or c.args.step.now.level.now.standings c.args.place no_standing in
    none_up_to c.args.step.now.search.program.now c.args.step.now.search.front.now c.args.share.number c.args.share.count s c.args.place (tabled c.args.table.now) (length c.args.step.now.search.program.now.clients)
    (λ d less. sym (c.taken-taken.ensures.taken d less) ∙ (ap (λ set. in_byte set d) c.if-taken-eq0.true ∙ in_none d))

pub lead_standing-requires-clause-standing : goal.lead_standing-requires-clause-standing
lead_standing-requires-clause-standing c = search (rules, each_at)

pub lead_standing-requires-clause-going : goal.lead_standing-requires-clause-going
lead_standing-requires-clause-going c =
    let p = c.args.step.now.search.program.now in
    let none : Going = record { clients = 0; share = 0 } in
    let there : IsGoing p c.args.share.count (slice_index_or c.args.step.now.level.now.standings c.args.place no_standing) c.going.result =
    subst (IsGoing p c.args.share.count (slice_index_or c.args.step.now.level.now.standings c.args.place no_standing)) (sym (c.going.ensures.going none))
    (zip_at (IsGoing p c.args.share.count) c.args.step.now.level.now.standings c.args.step.now.level.now.going c.args.place no_standing none c.requires.going c.requires.within) in
    there.clients ∙ ap (λ (s : StandingShape). goes_on p (configuration_in s).begun) (sym c.in_ok-load.ensures.loaded)
