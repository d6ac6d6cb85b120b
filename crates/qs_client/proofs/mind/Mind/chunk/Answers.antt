use Rattle.std.proofs.Common.{◌≡◌, [], refl, sym, ap, ◌∙◌, subst, length, arith}
use Rattle.qs_objects.specs.declared.Request.{Request}
use Rattle.qs_chunk.specs.audit.Batch.{Batch, batch}
use Rattle.qs_client.specs.audit.rules.Client.{take_chunk}
use Rattle.qs_client.specs.declared.rules.act.Act.TheVariants as acts
use Rattle.qs_client.specs.SoundMind.{IsSoundMind}
use Rattle.qs_client.specs.audit.ClientModel.{mind_after_chunk}
use Rattle.qs_client.specs.ClientModel.{Asks}
use Rattle.qs_client.specs.MindState.{MindState, block_of, client_in, mind_of, settings_in}
use Rattle.qs_client.specs.contracts.mind.Mind.{the_view}
use Rattle.qs_client.proofs.MindRefinement.{asks_nothing, needs_begun, block_inside, come_sound, chunk_is, nothing_left, steady, wants_of}
use Rattle.qs_client.proofs.mind.Mind.chunk.Goals as goal

of_size : (m : MindState) {c : Batch Request} → c ≡ batch [] (mind_of m).size → c ≡ batch [] m.size
unfolding mind_of
of_size m e = e

pub take_chunk-requires : goal.take_chunk-requires
take_chunk-requires c =
    let m : MindState = the_view c.self.inside in
    let w : IsSoundMind m = c.self.invariant.1 in
    let h = c.requires.asked.0 in
    let asked : Asks (mind_of m) (acts.NeedChunk h) = subst (λ (x : MindState). Asks (mind_of x) (acts.NeedChunk h)) (sym c.self.view_is) c.requires.asked.1 in
    let empty : c.args.chunk ≡ batch [] m.size = of_size m (c.requires.empty ∙ ap (λ (x : MindState). batch [] (mind_of x).size) (sym c.self.view_is)) in
    record {
      block = block_inside m w (needs_begun m w h asked);
      room = omega (arith, w.size.0, ap (λ (x : Batch Request). x.capacity) empty);
      asked = (settings_in m, length m.code.blocks, length m.entries, w.left, h, empty, wants_of m w (acts.NeedChunk h) asked);
    }

pub invariant_of-self : goal.invariant_of-self
invariant_of-self c =
    let m : MindState = the_view c.self.inside in
    let w : IsSoundMind m = c.self.invariant.1 in
    let h = c.requires.asked.0 in
    let asked : Asks (mind_of m) (acts.NeedChunk h) = subst (λ (x : MindState). Asks (mind_of x) (acts.NeedChunk h)) (sym c.self.view_is) c.requires.asked.1 in
    let empty : c.args.chunk ≡ batch [] m.size = of_size m (c.requires.empty ∙ ap (λ (x : MindState). batch [] (mind_of x).size) (sym c.self.view_is)) in
    let come = c.take_chunk.ensures.come (settings_in m) (length m.code.blocks) (length m.entries) w.left h refl empty (wants_of m w (acts.NeedChunk h) asked) in (
      c.self.invariant.0,
      subst IsSoundMind (nothing_left m c.take_chunk.new.self (asks_nothing m (acts.NeedChunk h) asked))
          (come_sound m (take_chunk (settings_in m) m.ticket (block_of m).reserved (client_in m) h (client_in m).stage) w.left c.take_chunk.new.self
          (steady m (needs_begun m w h asked) w) come w.few),
    )

pub returns : goal.returns
returns c =
    let m : MindState = the_view c.self.inside in
    let w : IsSoundMind m = c.self.invariant.1 in
    let empty : c.args.chunk ≡ batch [] m.size = of_size m (c.requires.empty ∙ ap (λ (x : MindState). batch [] (mind_of x).size) (sym c.self.view_is)) in
    record {
      chunk = λ h asks.
          let asked : Asks (mind_of m) (acts.NeedChunk h) = subst (λ (x : MindState). Asks (mind_of x) (acts.NeedChunk h)) (sym c.self.view_is) asks in
          let come = c.take_chunk.ensures.come (settings_in m) (length m.code.blocks) (length m.entries) w.left h refl empty (wants_of m w (acts.NeedChunk h) asked) in
          chunk_is m w.left h c.take_chunk.new.self (asks_nothing m (acts.NeedChunk h) asked) come
          ∙ ap (λ (x : MindState). mind_after_chunk (mind_of x) h) c.self.view_is;
    }
