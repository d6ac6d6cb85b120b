use Rattle.std.proofs.Common.{◌≡◌, ◌⊎◌, inr, ℕ, List, [], refl, ap, sym, subst, ◌∙◌, Ok, if◌then◌else◌}
use Rattle.qs_meaning.specs.audit.Serial.{IsLegal}
use Rattle.qs_serial.specs.audit.NamedOrders.{order_of}
use Rattle.qs_plain_laws.specs.orders.PlainOrders.{IsPlayedInOrder}
use Rattle.qs_line.specs.audit.Named.{clients_of}
use Rattle.qs_line.specs.audit.Line.{by_order, rules}
use Rattle.qs_serve.specs.Due.{AreQueuesOfRules, AreStepsOfRules, IsDueOfProgram, IsOutOfMemory, IsUnordered, form_of}
use Rattle.qs_serve.proofs.Dues.{alone, due_by_lines, due_by_report, lines_where, no_queues, no_steps, of_named, unordered}
use Rattle.qs_played.specs.declared.schedule.actor.Actor.{Actor}
use Rattle.qs_steps.specs.Orders.{PlayOrder, plain_order_queues, plain_order_steps}
use Rattle.qs_serve.proofs.plays.due_of_ordered_rules.Goals as goal
use Rattle.qs_serve.proofs.plays.due_of_ordered_rules.Goals.{in-Ok-rules_order_told, in-Err-rules_order_told}

pub due_of_told-requires : goal.due_of_told-requires
due_of_told-requires c = record {
  legal = subst (IsLegal c.args.program.now) (sym c.in-Ok-rules_order_told.ensures.played.order) c.in-Ok-rules_order_told.ensures.legal;
}

pub returns-then-is_told-clause-due : goal.returns-then-is_told-clause-due
returns-then-is_told-clause-due c =
    let p = c.args.program.now in
    let style = c.args.style in
    let list = c.args.list.now in
    let plan = by_order list in
    let how = form_of style.format in
    let xs = c.as_slice.result.now in
    let named : clients_of p list ≡ Ok xs = c.in-Ok.ensures.clients ∙ sym (ap (λ xs. Ok xs) c.as_slice.ensures.value) in
    elim c.match-rules_order_told.branch [
      | in-Ok-rules_order_told w ↦
          let told = w.in-Ok-rules_order_told.told in
          let texts = w.in-Ok-rules_order_told.ensures.told in
          subst (λ due. IsOutOfMemory due ⊎ IsDueOfProgram (rules style plan) [] p due) (sym w.result-is)
          (due_by_lines (rules style plan) style p told.steps.items told.queues.items told.played w.due_of_told.result
          (λ text e. (
            told.played,
            told.steps.items,
            told.queues.items,
            of_named (λ clients. IsLegal p (order_of clients) × IsPlayedInOrder p (order_of clients) told.played) (clients_of p list) xs named
                (w.in-Ok-rules_order_told.ensures.legal, w.in-Ok-rules_order_told.ensures.played),
            lines_where style.steps (AreStepsOfRules how plan p) (plain_order_steps how p texts.actors) told.steps.items
                (subst (λ f. told.steps.items ≡ (if style.steps then plain_order_steps f p texts.actors else [])) c.wanted_by-wanted.ensures.form
                (subst (λ b. told.steps.items ≡ (if b then plain_order_steps c.wanted_by-wanted.result.form p texts.actors else [])) c.wanted_by-wanted.ensures.steps texts.are))
                (of_named (λ clients. (actors : List Actor) × PlayOrder p (order_of clients) actors
                × (plain_order_steps how p texts.actors ≡ plain_order_steps how p actors)) (clients_of p list) xs named
                (texts.actors, texts.play, refl)),
            lines_where style.queues (AreQueuesOfRules how plan p) (plain_order_queues how p texts.actors) told.queues.items
                (subst (λ f. told.queues.items ≡ (if style.queues then plain_order_queues f p texts.actors else [])) c.wanted_by-wanted.ensures.form
                (subst (λ b. told.queues.items ≡ (if b then plain_order_queues c.wanted_by-wanted.result.form p texts.actors else [])) c.wanted_by-wanted.ensures.queues texts.lie))
                (of_named (λ clients. (actors : List Actor) × PlayOrder p (order_of clients) actors
                × (plain_order_queues how p texts.actors ≡ plain_order_queues how p actors)) (clients_of p list) xs named
                (texts.actors, texts.play, refl)),
            e,
          )) w.due_of_told.ensures.due)
      | in-Err-rules_order_told w ↦
          subst (λ due. IsOutOfMemory due ⊎ IsDueOfProgram (rules style plan) [] p due) (sym w.result-is)
          (inr (of_named (λ clients. IsUnordered p clients w.in-Err-rules_order_told.fault) (clients_of p list) xs named
          (unordered p xs _ w.in-Err-rules_order_told.fault w.in-Err-rules_order_told.is c.rules_order_told.ensures.order c.rules_order_told.ensures.memory)))
    ]

pub returns-in-Ok-play_plain_in_order-clause-due : goal.returns-in-Ok-play_plain_in_order-clause-due
returns-in-Ok-play_plain_in_order-clause-due c =
    let p = c.args.program.now in
    let played = c.in-Ok-play_plain_in_order.played in
    due_by_report (rules c.args.style (by_order c.args.list.now)) c.args.style p played _
    (λ text e. (
      played,
      [],
      [],
      of_named (λ clients. IsLegal p (order_of clients) × IsPlayedInOrder p (order_of clients) played) (clients_of p c.args.list.now) c.as_slice-2.result.now
          (c.in-Ok.ensures.clients ∙ sym (ap (λ xs. Ok xs) c.as_slice-2.ensures.value)) (c.in-Ok-play_plain_in_order.ensures.legal, c.in-Ok-play_plain_in_order.ensures.played),
      no_steps c.args.style.steps c.args.style.queues (AreStepsOfRules (form_of c.args.style.format) (by_order c.args.list.now) p) (sym c.is_told.ensures.value ∙ c.if-is_told.false),
      no_queues c.args.style.steps c.args.style.queues (AreQueuesOfRules (form_of c.args.style.format) (by_order c.args.list.now) p) (sym c.is_told.ensures.value ∙ c.if-is_told.false),
      alone text _ e,
    )) c.due_of_played.ensures.due
