-- The places before the next one are bound, and the others as they were.
use Rattle.qs_program.specs.audit.Program.{binding_of}
use Rattle.qs_graph.proofs.Bindings.{AreBoundBelow}
use Rattle.qs_graph.proofs.binding.bind_places.Given as goal

abbrev pub invariant-loop-place : goal.invariant-loop-place
invariant-loop-place l = record { bound : AreBoundBelow (binding_of l.program l.client) l.initial.places l.places l.place-index }
