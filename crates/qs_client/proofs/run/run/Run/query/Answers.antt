use Rattle.std.proofs.Common.{◌≡◌, arith, refl, ap, ◌∙◌, IsSome, Some, None, Option, ℤ, pos}
use Rattle.std.specs.Prelude.{unwrap_or}
use Rattle.std.proofs.lemmas.Int.{to_z-of_z, ints}
use Rattle.qs_objects.specs.declared.Request.{Request}
use Rattle.qs_objects.specs.audit.Journals.{HeldState, run_one}
use Rattle.qs_program.specs.audit.Values.{request_of}
use Rattle.qs_meaning.specs.audit.Solo.{event, value_of}
use Rattle.qs_graph.specs.audit.Walk.{Spot, at_node, with_value}
use Rattle.qs_client.specs.run.Holdings.{holding_at, with_held}
use Rattle.qs_objects.specs.Traces.{noted_at}
use Rattle.qs_client.specs.run.RunState.{RunState}
use Rattle.qs_client.specs.contracts.run.run.Run.{the_view}
use Rattle.qs_client.proofs.run.CallAndQuery.{query_runs}
use Rattle.qs_client.proofs.run.run.Run.query.Goals as goal
use mir.Val.{to_z, of_z}
use mir.Syntax.{w64}

unwrapped : (v : Option ℤ) → unwrap_or v (pos 0) ≡ value_of v
unwrapped None = refl
unwrapped (Some v) = refl

here : (x : Option HeldState) → IsSome x → (y : HeldState) × (x ≡ Some y)
here None h = cc
here (Some y) h = (y, refl)

pub returns : goal.returns
returns c =
    rw (← c.self.view_is)
    (
    let s : RunState = the_view c.self.inside in
    let h = c.args.call.now.object in
    let u = c.args.ticket in
    let r : Request = request_of s.position.locals c.args.call.now in
    let same : c.request-request.result ≡ r = c.request-request.ensures.value in
    let there = here (holding_at s.holdings h) (rw (← c.self.view_is) at c.requires.held) in
    let ran = c.run-reply.ensures.ran there.0 there.1 in
    let asked : c.copied.result ≡ r = c.copied.ensures.same ∙ same in
    let holdings : c.run-reply.new.self ≡ with_held s.holdings h (Some (run_one there.0 u r).0) =
    ran.0 ∙ ap (λ (q : Request). with_held s.holdings h (Some (run_one there.0 u q).0)) asked in
    let answer : c.run-reply.result ≡ (run_one there.0 u r).1 = ran.1 ∙ ap (λ (q : Request). (run_one there.0 u q).1) asked in
    let spot = λ (v : ℤ). at_node (with_value s.position c.args.variable v) c.args.next in
    let kept : to_z w64 (of_z w64 c.unwrap_or.result) ≡ unwrap_or c.run-reply.result (pos 0) = search (arith, ints, to_z-of_z, c.unwrap_or.ensures) in
    let reply : to_z w64 (of_z w64 c.unwrap_or.result) ≡ value_of c.run-reply.result = kept ∙ unwrapped c.run-reply.result in
    let position : c.go_to.new.self ≡ spot (value_of c.run-reply.result) =
    c.go_to.ensures.value ∙ ap (λ (w : Spot). at_node w c.args.next) (c.assign.ensures.value ∙ ap (λ v. with_value s.position c.args.variable v) reply) in
    let event : c.note.new.self ≡ noted_at s.traces u.index (event r c.run-reply.result) =
    c.note.ensures.noted ∙ ap (λ k. noted_at s.traces k (event c.request-request.result c.run-reply.result)) c.from.ensures
    ∙ ap (λ (q : Request). noted_at s.traces u.index (event q c.run-reply.result)) same in
    record {
      new =
          (λ i. record { position = position i; holdings = c.run-reply.new.self; traces = event i; stage = s.stage })
          ∙ query_runs u r spot s there.0 c.run-reply.result c.run-reply.new.self there.1 answer holdings;
    }
    )
