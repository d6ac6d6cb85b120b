-- What proofs of this crate name of the crates below, and of the definitions here, from one place.
pub use Rattle.qs_chunk.specs.declared.parcel.Parcel.TheVariants.{End, Work}
pub use Rattle.qs_core.proofs.CoreBlocks.{ArePlayed, IsFit, StandsIn, all_played, next_left, one_more, one_on, own_order, played_first, stage_is, stands_first, stands_on, turns_fit}
pub use Rattle.qs_core.specs.CoreOrders.{CoreGoes}
pub use Rattle.qs_core.specs.state.CoreState.{CoreState, IsFreshCore, IsPlayedOn, codes_of, core_of}
pub use Rattle.qs_core_laws.proofs.Names.{AreCodes, Batch, ClientCode, Core, IsCoreQuiet, Mode, Parcel, before_it, core_begin, core_played, core_plays, core_step, has_ended, is_between}
pub use Rattle.qs_core_laws.proofs.Names.{is_finished, lane_room, no_block_beyond, plays_by-append, range_more, row_more, serving, turn_of}
pub use Rattle.qs_core_laws.proofs.orders.BlocksPlayed.{named_append, turn_named}
pub use Rattle.qs_json.specs.audit.Pieces.{comma_at, field, first_field, quoted, truth}
pub use Rattle.qs_json.specs.audit.RunJson.{fate_json, reply_json}
pub use Rattle.qs_plain.proofs.Blocks.{Stands}
pub use Rattle.qs_plain.proofs.Names.{RulesState, plain_of}
pub use Rattle.qs_plain.specs.Awaiting.{awaited_at, awaited_by}
pub use Rattle.qs_plain.specs.client.Queues.{QueueState}
pub use Rattle.qs_plain_laws.proofs.Names.{Client, IsQuiet, Plain, begin, commands_in_queue, get_or-any, played_of, plays, step}
pub use Rattle.qs_plain_laws.specs.audit.Plain.{StageOfClient}
pub use Rattle.qs_played.proofs.Lists.{from_here}
pub use Rattle.qs_played.proofs.Names.{AllByRecursion, Err, HeldState, Ok, Played, ProgramShape, Request, Result, actors_of, all_named, and_cases, blocks_of, configuration_after, drop-cons}
pub use Rattle.qs_played.proofs.Names.{drop_all, each_join, each_map, length-append, length-map, length-map-range_with_len, names_actor, or_parts, or_stay, plays_by, put, range_with_len}
pub use Rattle.qs_played.proofs.Names.{rounds_of, schedule, take_more}
pub use Rattle.qs_played.specs.declared.schedule.actor.Actor.{Actor}
pub use Rattle.qs_program.specs.audit.Program.{client_at, object_at}
pub use Rattle.qs_serial.specs.audit.NamedOrders.{order_from, order_of}
pub use Rattle.qs_steps.specs.CoreQueues.{client_of, gap_in, handler_in, lane_in, parcel_in, parcels_in, queues_in, wait_in, waiting_in}
pub use Rattle.qs_steps.specs.CoreSteps.{core_told}
pub use Rattle.qs_steps.specs.Forms.{at_field, between, does_json, listed, name_in, numbered, only_json, requests_in, ticket_field}
pub use Rattle.qs_steps.specs.Orders.{GoesOn, HasGoneOn, IsOrderTold, IsOrderToldIn, PlayOrder, PlayOrderIn, WasReached, core_order_queues, core_order_steps, plain_order_queues}
pub use Rattle.qs_steps.specs.Orders.{plain_order_steps}
pub use Rattle.qs_steps.specs.PlainQueues.{handler_of, item_in, private_in}
pub use Rattle.qs_steps.specs.PlainSteps.{effect_json, plain_told}
pub use Rattle.qs_steps.specs.Queues.{is_silent, queue_head, queues_by, waits_at, waits_nothing}
pub use Rattle.qs_steps.specs.Telling.{AreTold, CoreKept, IsAsked, IsScheduleTold, IsToldIn, LeadTo, NoneStep, View, asked_line, awaited_in, core_view, rules_view, steps_from}
pub use Rattle.qs_steps.specs.Told.{idle_told, line_of, lines_by, stepper, steppers_by, steps_by}
pub use Rattle.qs_steps.specs.declared.wanted.Form.{Form}
pub use Rattle.qs_steps.specs.declared.wanted.Wanted.{Wanted}
pub use Rattle.std.proofs.lemmas.Bool.Decides.{nat_tests}
pub use Rattle.std.proofs.lemmas.Grind.{flat_map-append}
pub use Rattle.std.proofs.lemmas.List.{flat_map_more, get_or-append-add, get_or_append_left, length-take-le, take_all}
pub use Rattle.std.specs.Prelude.{MatchOption, OnOk, is_some}
