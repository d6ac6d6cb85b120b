-- The words and lemmas of the crates below that the proofs here use.
pub use Rattle.indexmap.proofs.ReorderLemmas.{exchange-twice}
pub use Rattle.indexmap.proofs.SetLemmas.{AllZip-push}
pub use Rattle.qs_alike.proofs.Composing.{alone_classes, becomes_across, becomes_alone, becomes_back, becomes_itself, becomes_same, becomes_then, no_change, no_change_is, then_changed, then_is, undone, undone_is}
pub use Rattle.qs_alike.proofs.Exchanging.{flip, flip_alike, flip_is, flipped_first, flipped_other, flipped_second}
pub use Rattle.qs_alike.proofs.Following.{alone_goes, followed_back, followed_changed, followed_onward, followed_reduced_after, follows_changed, follows_left, goes_alone, legal_followed, reduced_followed, reduced_followed_after}
pub use Rattle.qs_alike.proofs.Keying.{key_alone, key_kept, key_tells, one_key}
pub use Rattle.qs_alike.proofs.Lengths.{alike_long, equally_long}
pub use Rattle.qs_alike.proofs.Orders.{as_many, changes_keep_outcomes, leads_from, legal_from, one_changed}
pub use Rattle.qs_alike.specs.Changes.{AreAlone, AreClasses, Becomes, Change, changed, changed_order, changed_outcome, changed_ticket, Classes, IsChange}
pub use Rattle.qs_alike.specs.Followed.{all_legal, GoesOnUpTo, IsFollowedAfter, IsFollowedFrom, only_reduced, Orders}
pub use Rattle.qs_alike.specs.Keys.{IsKey}
pub use Rattle.qs_alike.specs.Texts.{classes_in}
pub use Rattle.qs_meaning.proofs.Each.{each_back, each_both, each_front, each_join, each_map, each_snoc, every}
pub use Rattle.qs_meaning.proofs.Orders.{begun_within, complete_orders_leave_none, configuration-append, configurations_follow_orders, legal-front, legal-join, legal-rest, legal_on}
pub use Rattle.qs_meaning.specs.Configurations.{HasBlockLeft, OrderOutcome, outcome_in, outcome_of}
pub use Rattle.qs_meaning.specs.Reduced.{IsReducedFrom}
pub use Rattle.qs_meaning.specs.audit.Configurations.{Configuration, configuration_after, configuration_from, first_configuration, IsComplete, one_block_on}
pub use Rattle.qs_meaning.specs.audit.Reduced.{Counts}
pub use Rattle.qs_meaning.specs.audit.Serial.{IsLegal, LegalFrom}
pub use Rattle.qs_meaning.specs.audit.Solo.{put}
pub use Rattle.qs_objects.proofs.Choices.{eqb_apart, eqb_self, num_cases}
pub use Rattle.qs_objects.specs.declared.held.Ticket.{Ticket}
pub use Rattle.qs_program.specs.Sound.{IsSound, IsSoundClient}
pub use Rattle.qs_program.specs.audit.Program.{blocks_of, ClientShape, no_client, ProgramShape}
pub use Rattle.qs_serial.specs.audit.NamedOrders.{order_from, order_of}
pub use Rattle.qs_standings.proofs.Lists.{has_back, has_either, has_front, has_map, has_of, has_only, has_some, none_of, pairs_front, pairs_join, pairs_last, same_list, two_snoc}
pub use Rattle.qs_standings.proofs.Pigeonhole.{at_most}
pub use Rattle.qs_standings.proofs.Stands.{below_or_past, block_on, configuration-snoc, has_place, in_program}
pub use Rattle.qs_standings.specs.Lists.{EachTwo, HasOne, NoTwo}
pub use Rattle.qs_standings.specs.Rows.{drafted, IsInserted, rows_in, shape_of}
pub use Rattle.qs_standings.specs.Standings.{configuration_in, flipped, HasNext, HasRun, IsFirst, IsOneOn, IsReducedAfter, IsStanding, NoneNext, row_of, RowShape, standing_with_block, StandingShape}
pub use Rattle.std.proofs.Math.Nat.{div-le_self, mul-div_cancel, mul-le-mul, mul-le-mul_left, mul-le-mul_right, pow-le-pow_right, pow-suc}
pub use Rattle.std.proofs.lemmas.Bool.{cases_lt, le-ltb, lt-ltb}
pub use Rattle.std.proofs.lemmas.Bool.Decides.{nat_tests}
pub use Rattle.std.proofs.lemmas.List.{drop_all, ext_get_or, get_or-replicate, get_or-take, length-map, length-take-le, nil_from_length}
pub use Rattle.std.proofs.lemmas.List.Sums.{sum_by-append, sum_by-cons}
pub use Rattle.std.proofs.lemmas.Slice.Zip.{AllZip-long}
pub use Rattle.std.specs.Cmp.Rules.{signed_items}
pub use Rattle.std.specs.List.{AllByRecursion, AllZip, sum}
pub use Rattle.std.specs.Prelude.{IfSome, ℤ}
