use Rattle.qs_desk.proofs.Wakings.{Leads}
use Rattle.qs_desk.proofs.wake.wake_told.Given as goal

-- those before it were woken where they are told of
abbrev pub invariant-loop-handler : goal.invariant-loop-handler
invariant-loop-handler g l = Leads g.W.Wakes.moves l.wakers l.told l.handler l.initial.log l.log
