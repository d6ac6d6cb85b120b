use Rattle.std.proofs.Common.{◌≡◌, map}
use Rattle.qs_plain.specs.handler.Served.{HandlerState}
use Rattle.qs_plain.proofs.showing.parts.Given as goal

abbrev pub invariant-loop-handler : goal.invariant-loop-handler
invariant-loop-handler l = record {
  journals : l.journals.items ≡ map (λ (h : HandlerState). h.held.journal) l.yielded;
  states : l.states.items ≡ map (λ (h : HandlerState). h.held.object) l.yielded;
}
