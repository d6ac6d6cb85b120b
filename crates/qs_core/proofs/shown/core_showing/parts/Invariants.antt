use Rattle.std.proofs.Common.{◌≡◌, length, map, vec_len}
use Rattle.std.specs.List.{range_with_len}
use Rattle.qs_core.specs.shown.CoreShown.{core_held_at}
use Rattle.qs_core.proofs.shown.core_showing.parts.Given as goal

abbrev pub invariant-loop-handler : goal.invariant-loop-handler
invariant-loop-handler l = record {
  many : vec_len l.journals ≡ length l.yielded;
  journals : l.journals.items ≡ map (λ h. (core_held_at l.clients l.fn.handlers.items h).journal) (range_with_len 0 (length l.yielded));
  states : l.states.items ≡ map (λ h. (core_held_at l.clients l.fn.handlers.items h).object) (range_with_len 0 (length l.yielded));
}
