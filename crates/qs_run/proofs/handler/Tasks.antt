-- When more tasks are added at the end of a run, it leads to where they lead, and what it took, received and gave is
-- what both parts did, one after the other. The loop of a handler's thread adds one task at a time, and its invariant
-- stands on this. It goes by induction on the tasks of the first part.
use Rattle.std.proofs.Common.{◌≡◌, ◌+◌, arith, ℕ, if◌then◌else◌, ◌==◌, List, [], ◌∷◌, ◌++◌, refl, sym, subst, rules}
use Rattle.qs_run.proofs.Names.{Handler, gave, spared_to}
use Rattle.qs_handler.specs.audit.HandlerRuns.{Task, takes, receives, gives, spares, TasksLead, given_to, received_from, taken_by}

pub tasks_lead : (tasks more : List Task) (h m end : Handler) → TasksLead h tasks m → TasksLead m more end → TasksLead h (tasks ++ more) end
tasks_lead [] more h m end lead next = subst (λ h. TasksLead h more end) (sym lead) next
tasks_lead (takes x ∷ tasks) more h m end lead next = (lead.0, lead.1, tasks_lead tasks more lead.0 m end lead.2 next)
tasks_lead (receives c p ∷ tasks) more h m end lead next = (lead.0, lead.1, lead.2, tasks_lead tasks more lead.0 m end lead.3 next)
tasks_lead (gives c x ∷ tasks) more h m end lead next = (lead.0, tasks_lead tasks more (gave h) m end lead.1 next)
tasks_lead (spares c x ∷ tasks) more h m end lead next = (lead.0, tasks_lead tasks more (gave h) m end lead.1 next)

pub taken_more : (tasks more : List Task) → taken_by (tasks ++ more) ≡ taken_by tasks ++ taken_by more
taken_more [] more = refl
taken_more (t ∷ tasks) more = grind (arith, taken_more tasks more)

pub received_more : (c : ℕ) (tasks more : List Task) → received_from c (tasks ++ more) ≡ received_from c tasks ++ received_from c more
received_more c [] more = refl
received_more c (t ∷ tasks) more = grind (arith, received_more c tasks more)

pub given_more : (c : ℕ) (tasks more : List Task) → given_to c (tasks ++ more) ≡ given_to c tasks ++ given_to c more
given_more c [] more = refl
given_more c (t ∷ tasks) more = grind (arith, given_more c tasks more)

pub spared_more : (c : ℕ) (tasks more : List Task) → spared_to c (tasks ++ more) ≡ spared_to c tasks + spared_to c more
spared_more c [] more = omega arith
spared_more c (t ∷ tasks) more = grind (arith, spared_more c tasks more)
