-- What proofs of this crate and of those above it name of the crates below, and of the definitions here, from one place.
pub use Rattle.std.proofs.lemmas.Bool.Decides.{nat_tests}
pub use Rattle.qs_objects.specs.Laws.{IsCommand}
pub use Rattle.qs_graph.specs.Synced.{without_syncs}
pub use Rattle.qs_graph.specs.audit.Synced.{Call, Sync, Synced}
pub use Rattle.qs_syncset.proofs.CountedSyncs.{code_asks, syncs_are_counted}
pub use Rattle.qs_syncset.specs.SoundSynced.{IsOnReserved, IsSoundSynced}
pub use Rattle.qs_syncset.specs.audit.Codes.{AreCodes, BlockCode, ClientCode, IsCodeOf, blocks_in, code_at, no_code}
pub use Rattle.qs_syncset.specs.audit.Codes.{reserved_of}
pub use Rattle.qs_syncset.specs.declared.mode.Mode.{Mode}
pub use Rattle.qs_chunk.specs.LaneParts.{commands_in, lane_of, past_end, to_end}
pub use Rattle.qs_chunk.specs.LaneViews.{ClientLane, Extends, HandlerGives, HandlerLane, ObjectStance, Serving, asks}
pub use Rattle.qs_chunk.specs.LaneViews.{gone, holds, over, sends}
pub use Rattle.qs_chunk.specs.Lanes.{MayFollow, may_stand}
pub use Rattle.qs_chunk.specs.audit.Batch.{Batch, batch}
pub use Rattle.qs_chunk.specs.audit.LaneParts.{away_at}
pub use Rattle.qs_chunk.specs.audit.LaneRun.{IsLaneRun, syncs}
pub use Rattle.qs_chunk.specs.audit.Lanes.{HasSize, is_asked}
pub use Rattle.qs_chunk.specs.audit.Limits.{lane_room, spare_room}
pub use Rattle.qs_chunk.specs.audit.Runs.{ran_all}
pub use Rattle.qs_chunk.specs.declared.parcel.Parcel.{Parcel}
pub use Rattle.qs_handler.proofs.HandlerActs.{acts_lose_nothing, parcels_stand, tickets_are_asked_for}
pub use Rattle.qs_handler.specs.Handler.{held_of, is_away, serving, with_act}
pub use Rattle.qs_handler.specs.audit.Handler.{Handler, accept_next, accept_parcel, away, closed, free, gave, gives}
pub use Rattle.qs_handler.specs.audit.Handler.{is_free, serves, spares}
pub use Rattle.qs_handler.specs.audit.HandlerRuns.{Task, TasksLead, given_to, received_from, taken_by, takes}
pub use Rattle.qs_client.proofs.rules.CarriedValues.{sends_are_parted}
pub use Rattle.qs_client.proofs.run.CodeBounds.{few_blocks, longest_covers}
pub use Rattle.qs_client.specs.MindState.{IsMind, MindState, mind_of}
pub use Rattle.qs_client.specs.audit.ClientModel.{ClientModel, act_due, enters, finish, fresh_mind, hands_out}
pub use Rattle.qs_client.specs.audit.ClientModel.{has_ended, is_between, lists_of_code, mind_after_begin}
pub use Rattle.qs_client.specs.audit.ClientModel.{mind_after_chunk, mind_after_object, next_act, next_mind}
pub use Rattle.qs_client.specs.audit.ClientModel.{synced_block, tally, tree_at}
pub use Rattle.qs_client.specs.audit.ClientRuns.{Deed, DeedsLead, RunsTo, got_from, next_ticket, reservations, sent_to}
pub use Rattle.qs_client.specs.audit.rules.Client.{Client, ClientStage, Settings, Settlement, act_at, act_of, after_end}
pub use Rattle.qs_client.specs.audit.rules.Client.{after_home, after_parcel, after_sync, after_work, awaits, begin}
pub use Rattle.qs_client.specs.audit.rules.Client.{between, call, call_act, clear, end_block, first_client, full}
pub use Rattle.qs_client.specs.audit.rules.Client.{leaves, query, runs, set_chunk, set_held, set_stage, settle, stop_at}
pub use Rattle.qs_client.specs.audit.rules.Client.{take_chunk, take_object, with_event, work}
pub use Rattle.qs_client.specs.audit.rules.Outgoings.{after_send, count_sync, outgoing_of, without_act}
pub use Rattle.qs_client.specs.audit.run.BlockSizes.{longest}
pub use Rattle.qs_client.specs.declared.rules.act.Act.{Act}
pub use Rattle.qs_client.specs.declared.rules.act.Act.TheVariants.{Await, Finished, NeedChunk, Reserve, Send}
pub use Rattle.qs_played.proofs.FunctionUpdate.{put_all, put_at, put_at_field, put_at_here, put_at_kept, put_at_there}
pub use Rattle.qs_played.proofs.FunctionUpdate.{put_both, put_field, put_kept}
pub use Rattle.qs_played.proofs.JournalRooms.{all_left, cost, leads_within, no_block_beyond, order_fits, sum_changed}
pub use Rattle.qs_played.proofs.JournalRooms.{sum_same, total, total_less}
pub use Rattle.qs_played.proofs.Lists.{get_or-any, range_more, sum_by-range_more}
pub use Rattle.qs_played.proofs.Orders.{among_once, apart_both, apart_kept, counts-more, counts_after, each_among}
pub use Rattle.qs_played.proofs.Orders.{legal-more, legal_among}
pub use Rattle.qs_played.proofs.Playing.{plays_by-append, row_more, step_at_end, step_in_front}
pub use Rattle.qs_played.proofs.ReservedObjects.{distinct_objects, listed_inside, no_text, none_beyond, reserved_inside}
pub use Rattle.qs_played.proofs.SyncLists.{legal_blocks, sum_inside, sum_of, sum_tickets, sum_up, sum_zero, total_of}
pub use Rattle.qs_played.proofs.SyncTallies.{none_for, objects_none, objects_stay, sent_for, sent_of, total_for}
pub use Rattle.qs_core_laws.specs.CoreReached.{CoreStands}
pub use Rattle.qs_core_laws.specs.CoreSchedule.{CoreRunsAreIsolated, IsShown, before_it, in_chunk, on_way, or_none}
pub use Rattle.qs_core_laws.specs.audit.Core.{Core, after_act, after_handler, client_step, core_begin, core_step}
pub use Rattle.qs_core_laws.specs.audit.Core.{current, gets, gives_chunk, handler_step, handles, lies, may, put_lane}
pub use Rattle.qs_core_laws.specs.audit.Core.{put_ticket, reserves_from, settings_of, syncs_after, takes_chunk}
pub use Rattle.qs_core_laws.specs.audit.Core.{takes_parcel, takes_ticket, with_down, with_spare, with_tickets, with_up}
pub use Rattle.qs_core_laws.specs.audit.CoreSchedule.{all_of, core_played, core_plays, found_by, held_now, held_or_none}
pub use Rattle.qs_core_laws.specs.audit.CoreSchedule.{is_done, is_finished, is_idle}
pub use Rattle.qs_core_laws.specs.orders.CoreOrders.{CoreOrdersArePlayed, IsPlayedInOrderOn}
pub use Rattle.qs_core_laws.specs.orders.CoreQuiet.{IsCoreQuiet, IsLaneClear, turn_of, two_of_each}
pub use Rattle.qs_core_laws.specs.progress.CoreSteps.{CoreStepsAreBounded, core_steps_made, core_steps_of_block}
pub use Rattle.qs_core_laws.specs.progress.CoreSteps.{most_core_steps_of}
pub use Rattle.qs_core_laws.specs.protocol.ClientHistories.{ClientHistory, HasNone, IsBlockHistory, IsOpenRecord}
pub use Rattle.qs_core_laws.specs.protocol.ClientHistories.{apart_from, upto}
