-- The words and lemmas of the crates below that the proofs here use.
pub use Rattle.qs_levels.specs.Founds.{Found, found_in, found_of, IsSpot, level_in, LevelShape, no_found, no_standing, standing_at, zipped}
pub use Rattle.qs_levels.specs.Leads.{AreEven, AreKept, AreKnown, IsLead, IsLedOn, IsLedUpTo, IsOverfull, IsPartOf, IsTableOf, leads, leads_below, tabled, TableShape, with_lead}
pub use Rattle.qs_levels.specs.Merging.{AreParts, first_lead, IsBetter, IsLeastPart, IsLeastTo, IsLess, IsNoMore, IsNoMoreThanFirst, IsPartLed, rests_of, spot_of}
pub use Rattle.qs_levels.specs.MoreFronts.{HasMoreFronts}
pub use Rattle.qs_levels.specs.Shares.{AreGoing, AreMasks, AreTaken, is_taken, IsGoing, mark_of, ReservesAgain, weight}
pub use Rattle.qs_levels.specs.declared.level.Going.{Going}
pub use Rattle.qs_levels.specs.declared.table.Mark.{Mark}
pub use Rattle.qs_levels.specs.meaning.Fronts.{AreDistinct, AreFrontsAfter, FrontsCover, IsAfter, IsOnward}
pub use Rattle.qs_levels.specs.meaning.Levels.{AreNotedTo, IsLevel, IsNextOf, IsSearched}
pub use Rattle.qs_levels.specs.meaning.Onward.{HasMoreOnward, IsNoLater, IsOneLonger, IsReached, order_on, StandsFor}
pub use Rattle.qs_levels.specs.meaning.Weights.{weighted}
pub use Rattle.qs_meaning.proofs.Each.{each_back, each_both, each_front, each_join, each_map, each_snoc, zip_at}
pub use Rattle.qs_meaning.proofs.Orders.{begun_within, complete_orders_leave_none, configuration-append, configurations_follow_orders, legal-front, legal-join, legal-rest, legal_on}
pub use Rattle.qs_meaning.proofs.Reductions.{reduced_from, ReducedFrom}
pub use Rattle.qs_meaning.specs.Configurations.{OrderOutcome, outcome_in, outcome_of}
pub use Rattle.qs_meaning.specs.Reduced.{block_reserves, Clients, comes_in, first_smallest, goes_on, has_block_left, IsOutcomeAfter, IsReducedFrom, smaller, some_below, still_reserves, widened, wider}
pub use Rattle.qs_meaning.specs.audit.Configurations.{Configuration, configuration_after, configuration_from, first_configuration, IsComplete, one_block_on}
pub use Rattle.qs_meaning.specs.audit.Reduced.{Counts}
pub use Rattle.qs_meaning.specs.audit.Serial.{IsLegal, LegalFrom, no_state, zeros}
pub use Rattle.qs_meaning.specs.audit.Solo.{put}
pub use Rattle.qs_objects.proofs.Choices.{and_cases, eqb_apart, eqb_self, eqb_true}
pub use Rattle.qs_objects.specs.declared.held.Ticket.{Ticket}
pub use Rattle.qs_outcomes.proofs.Before.{before_both, before_longer, before_onward, fork, not_before, reduced_onward}
pub use Rattle.qs_outcomes.specs.LeastOrders.{AreSorted, IsBefore, IsLeastThere, IsLongerBy}
pub use Rattle.qs_outcomes.specs.Outcomes.{AreApart, AreOutcomesAfter, HasConfigurationsAfter, HasMoreThanAfter, IsLeastAfter, IsListedAfter, outcome_at}
pub use Rattle.qs_outcomes.specs.declared.fault.OutcomesFault.TheVariants.{Limit}
pub use Rattle.qs_program.specs.Sound.{IsSound}
pub use Rattle.qs_program.specs.audit.Limits.{most_clients}
pub use Rattle.qs_program.specs.audit.Program.{block_at, blocks_of, BlockShape, client_at, no_block, ProgramShape}
pub use Rattle.qs_standings.proofs.Lists.{has_back, has_front, has_map, has_of, has_some, none_of, pairs_front, pairs_join, pairs_last, same_list, two_snoc}
pub use Rattle.qs_standings.proofs.RowTells.{row_tells, same_configurations}
pub use Rattle.qs_standings.proofs.Stands.{below_or_past, block_next, configuration-snoc, goes_left, has_place, in_program, read_at}
pub use Rattle.qs_standings.proofs.going.GoingSets.{client_more, client_skipped, in_none, in_set, out_of_set}
pub use Rattle.qs_standings.specs.Lists.{EachTwo, HasOne, NoTwo}
pub use Rattle.qs_standings.specs.Rows.{drafted, rows_in}
pub use Rattle.qs_standings.specs.Standings.{configuration_in, GoesOn, IsFirst, IsNext, IsReducedAfter, IsStanding, NoneNext, row_of, standing_with_block, StandingShape}
pub use Rattle.qs_standings.specs.going.Going.{begun_counts, in_byte}
pub use Rattle.std.proofs.Common.{[], ap, append_assoc, ap₂, arith, bit_and, Bool, drop, Err, false, get_or, IfOk, if◌then◌else◌, inl, inr, length, List, min, nat_lt, None, Option, refl, replicate}
pub use Rattle.std.proofs.Common.{rules, slice_index_or, Some, subst, suc, sym, take, true, true≢false, vec_len, zero, ℕ, ◌%◌, ◌&&◌, ◌*◌, ◌++◌, ◌+◌, ◌-◌, ◌<◌, ◌==◌, ◌||◌, ◌∙◌, ◌∷◌, ◌≡◌, ◌≤◌, ◌⊎◌}
pub use Rattle.std.proofs.Crossing.{crosses}
pub use Rattle.std.proofs.Math.Seq.{drop-cons, get_or-append_seam, take-suc}
pub use Rattle.std.proofs.lemmas.Bool.{cases_Bool, cases_eq, cases_lt}
pub use Rattle.std.proofs.lemmas.Bool.Decides.{nat_tests}
pub use Rattle.std.proofs.lemmas.Grind.{common_steps}
pub use Rattle.std.proofs.lemmas.List.{append-nil, drop_all, get_or-append_right, get_or-drop, get_or-take, get_or_append_left, get_or_default, length-append, length-drop, length-map}
pub use Rattle.std.proofs.lemmas.List.{length-replicate, length-set, length-take, length-take-le, map-append, nil_from_length, take-append-drop, take_all, take_more}
pub use Rattle.std.proofs.lemmas.Result.{err_from_is_err_and, IfOk-at_ok}
pub use Rattle.std.specs.Fork.Halves.{GivesFor}
pub use Rattle.std.specs.List.{AllByRecursion, list_any}
pub use Rattle.std.specs.Prelude.{slice_set}
pub use denote.Param.Send.{IsSync, sendable}
