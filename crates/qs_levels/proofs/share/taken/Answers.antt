use Rattle.qs_levels.proofs.Common.{◌<◌, ◌%◌, arith, bit_and, slice_index_or, subst, sym, configuration_in, zip_at, no_standing, AreTaken, IsGoing, mark_of, Going}
use Rattle.qs_levels.proofs.Masks.{are_taken}
use Rattle.qs_levels.proofs.share.taken.Goals as goal
use Rattle.qs_levels.proofs.share.taken.Goals.{After-going-going}

-- who goes on from the standing at the place
going_there : (c : After-going-going) → IsGoing c.args.program.now c.args.share.count (slice_index_or c.args.level.now.standings c.args.place no_standing) c.going-going.result
going_there c =
    let none : Going = record { clients = 0; share = 0 } in
    subst (IsGoing c.args.program.now c.args.share.count (slice_index_or c.args.level.now.standings c.args.place no_standing)) (sym (c.going-going.ensures.going none))
    (zip_at (IsGoing c.args.program.now c.args.share.count) c.args.level.now.standings c.args.level.now.going c.args.place no_standing none c.requires.going c.requires.within)

pub bounds-masks-from : goal.bounds-masks-from
bounds-masks-from c = let going = going_there (goal.at.bounds-masks-from c).After-going-going in omega (arith, going.share, c.requires.masks.long, c.from.ensures)

pub returns : goal.returns
returns c = record {
  taken = subst (λ k. AreTaken c.args.program.now c.args.share.number c.args.share.count (slice_index_or c.args.level.now.standings c.args.place no_standing)
      (bit_and c.going-going.result.clients (slice_index_or c.args.masks.now k 0)))
      (sym c.from.ensures)
      (are_taken c.args.program.now c.keeps_sound.ensures.sound c.args.share.number c.args.share.count (slice_index_or c.args.level.now.standings c.args.place no_standing) c.going-going.result c.args.masks.now
      c.requires.some (going_there (goal.at.returns c).After-going-going) c.requires.masks);
}
