-- What proofs of this crate and of those above it name of the crates below, and of the definitions here, from one place.
pub use Rattle.qs_played.proofs.FunctionUpdate.{put_all, put_at, put_at_field, put_at_here, put_at_kept, put_at_there}
pub use Rattle.qs_played.proofs.FunctionUpdate.{put_both, put_field, put_kept}
pub use Rattle.qs_played.proofs.JournalRooms.{no_block_beyond}
pub use Rattle.qs_played.proofs.Lists.{apart, empty_of, get_or-any}
pub use Rattle.qs_played.proofs.Orders.{apart_both, apart_kept, counts-more, counts_after, counts_grow, each_among}
pub use Rattle.qs_played.proofs.Orders.{legal-more, legal_among}
pub use Rattle.qs_plain_laws.specs.PlainIsolation.{PlainRunsAreIsolated, commands_in, commands_in_queue, commands_of}
pub use Rattle.qs_plain_laws.specs.audit.Plain.{Client, Handler, Plain, Private, StageOfClient, after_reply, asks}
pub use Rattle.qs_plain_laws.specs.audit.Plain.{at_each, at_handler, begin, begun_blocks, calls, client_at, client_step}
pub use Rattle.qs_plain_laws.specs.audit.Plain.{current, ends, enter, handler_at, handler_step, item_step, leaves_queue}
pub use Rattle.qs_plain_laws.specs.audit.Plain.{log_in, moves_on, no_handler, out, put_item, queue_step, reply_to}
pub use Rattle.qs_plain_laws.specs.audit.Plain.{runs_command, runs_query, serves, step, waiting, within}
pub use Rattle.qs_plain_laws.specs.audit.PlainSchedule.{all_done, all_idle, ended_at, is_done, is_finished, is_out}
pub use Rattle.qs_plain_laws.specs.audit.PlainSchedule.{played_of, plays}
pub use Rattle.qs_plain_laws.specs.declared.item.QueueItem.{QueueItem}
pub use Rattle.qs_plain_laws.specs.orders.PlainOrders.{IsPlayedInOrder, OrdersArePlayed}
pub use Rattle.qs_plain_laws.specs.orders.Quiet.{IsOut, IsQuiet}
pub use Rattle.qs_plain_laws.specs.progress.Steps.{StepsAreBounded, made, most_steps_of, steps_made, steps_of_block}
pub use Rattle.qs_plain_laws.specs.progress.Steps.{steps_of_client}
