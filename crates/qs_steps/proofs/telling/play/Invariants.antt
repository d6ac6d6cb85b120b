use Rattle.std.proofs.Common.{take}
use Rattle.qs_steps.specs.Telling.{LeadTo}
use Rattle.qs_steps.proofs.telling.play.Given as goal

abbrev pub invariant-loop-pick : goal.invariant-loop-pick
invariant-loop-pick g l = LeadTo g.M.Machine.view (take l.pick-index l.picks) l.initial.machine l.machine
