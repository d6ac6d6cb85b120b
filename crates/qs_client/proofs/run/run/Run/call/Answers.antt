use Rattle.std.proofs.Common.{◌≡◌, sym, ap, ◌∙◌, Some, if◌then◌else◌}
use Rattle.qs_objects.specs.declared.Request.{Request}
use Rattle.qs_objects.specs.audit.Parts.{command_event}
use Rattle.qs_program.specs.audit.Values.{request_of}
use Rattle.qs_graph.specs.audit.Walk.{at_node}
use Rattle.qs_client.specs.run.Holdings.{chunk_at, with_chunk, with_request, is_full}
use Rattle.qs_objects.specs.Traces.{noted_at}
use Rattle.qs_client.specs.run.RunState.{RunState}
use Rattle.qs_client.specs.contracts.run.run.Run.{the_view}
use Rattle.qs_client.proofs.run.CallAndQuery.{none_of, open_chunk, call_fills}
use Rattle.qs_client.proofs.run.run.Run.call.Goals.{then-is_full, else-is_full}
use Rattle.qs_client.specs.declared.run.stage.Stage.TheVariants as stages
use Rattle.qs_client.proofs.run.run.Run.call.Goals as goal

pub returns-clause-new : goal.returns-clause-new
returns-clause-new c =
    rw (← c.self.view_is)
    (
    let s : RunState = the_view c.self.inside in
    let h = c.args.command.now.object in
    let r : Request = request_of s.position.locals c.args.command.now in
    let same : c.request-request.result ≡ r = c.request-request.ensures.value in
    let opened = (rw (← c.self.view_is) at c.requires.opened) in
    let there = open_chunk opened.0 (chunk_at s.holdings h) opened.1 (sym c.has_chunk.ensures.value ∙ c.if-not-has_chunk.false) in
    let pushed = c.push-is_full.ensures.pushed there.0 there.1 in
    let holdings : c.push-is_full.new.self ≡ with_chunk s.holdings h (Some (with_request there.0 r)) =
    pushed.0 ∙ ap (λ (q : Request). with_chunk s.holdings h (Some (with_request there.0 q))) same in
    let full = pushed.1 ∙ ap (λ (q : Request). is_full (with_request there.0 q)) same in
    let rest = call_fills c.args.block r (at_node s.position c.args.next) s there.0 c.push-is_full.result c.push-is_full.new.self (none_of _ (sym c.holds.ensures.value ∙ c.if-holds.false)) there.1 full holdings in
    let position : c.go_to.new.self ≡ at_node s.position c.args.next = c.go_to.ensures.value in
    let event : c.note.new.self ≡ noted_at s.traces c.args.block (command_event r) =
    c.note.ensures.noted ∙ ap (λ (q : Request). noted_at s.traces c.args.block (command_event q)) (c.copied.ensures.same ∙ same) in
    elim c.if-is_full.branch [
      | then-is_full w ↦
          w.self-is
          ∙ (λ i. record { position = position i; holdings = c.push-is_full.new.self; traces = event i; stage = if sym w.if-is_full.true i then stages.Full h else s.stage })
          ∙ rest
      | else-is_full w ↦
          w.self-is
          ∙ (λ i. record { position = position i; holdings = c.push-is_full.new.self; traces = event i; stage = if sym w.if-is_full.false i then stages.Full h else s.stage })
          ∙ rest
    ]
    )
