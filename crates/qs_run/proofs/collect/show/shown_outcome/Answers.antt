-- The counts that are added up are those of the blocks of the order, of which each has few.
use Rattle.std.proofs.Common.{◌≤◌, length, map, sym, ap, ◌∙◌, subst}
use Rattle.qs_played.proofs.Names.{AllByRecursion, most_objects, Played, counts_of_ticket}
use Rattle.qs_run.proofs.ListPlaces.{all_mapped}
use Rattle.qs_run.proofs.collect.show.shown_outcome.Goals as goal

pub all_syncs-syncs-requires-clause-short : goal.all_syncs-syncs-requires-clause-short
all_syncs-syncs-requires-clause-short c =
    subst (AllByRecursion (λ row. length row ≤ most_objects))
    (sym (ap (λ (o : Played). o.sync_counts) c.new-played.ensures.value ∙ ap (map (counts_of_ticket c.args.rows.items)) c.from_vec-4.ensures.value))
    (all_mapped (λ row. length row ≤ most_objects) (counts_of_ticket c.args.rows.items) c.args.order.items c.requires.short)
