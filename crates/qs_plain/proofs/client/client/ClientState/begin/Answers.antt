use Rattle.std.proofs.Common.{◌≡◌, [], ◌∷◌, ◌++◌, ◌≤◌, add-zero, length, ap, refl, sym, subst, ◌∙◌, arith}
use Rattle.qs_played.proofs.Names.{length-append, BlockShape, block_at, Statements}
use Rattle.qs_plain.proofs.Names.{AreStored, ClientState, IsClient, IsStaged, client_from, places_of, rest, Stack}
use Rattle.qs_plain.specs.client.ClientMoves.{Begins, begun_with}
use Rattle.qs_plain.specs.declared.client.stage.Stage.TheVariants as stages
use Rattle.qs_plain.proofs.client.ClientPreserved.{begun_kept}
use Rattle.qs_plain.proofs.client.StoredClients.{absent_block, begun_first, first_prepared, many_prepared, moved_begun, stored_begun}
use Rattle.qs_plain.proofs.client.client.ClientState.begin.Goals as goal

pub invariant_of-self : goal.invariant_of-self
invariant_of-self c =
    let s = c.self.inside in
    let kept = c.self.invariant.0 in
    let stored = c.self.invariant.1 in
    let out = ap (λ (d : ClientState). d.stage) c.self.view_is ∙ c.requires.out in
    let number : c.len-index.result ≡ length s.entries.items = c.len-index.ensures ∙ s.entries.ok.0 in
    let body = c.body.ensures.value ∙ ap (λ (b : BlockShape). b.body) (c.block.ensures.value ∙ ap (block_at s.program.now s.number) number) in
    let room = ap (λ (s : Stack). s.room) c.enter.ensures.entered in
    let frames = ap (λ (s : Stack). s.frames) c.enter.ensures.entered ∙ ap (λ b. s.frames.frames ++ rest b ∷ []) body in
    let first = c.in-Some.ensures.items in
    let more = ap length first in
    let moved = moved_begun s.program.now s.number s.stage s.locals s.frames.frames s.frames.room s.entries.items s.traces s.counts.rows _ s.prepared.items c.pop_front.new.self.items first stored
    c.enter.new.self.frames c.enter.new.self.room c.push_reserved.new.self.items room frames c.push_reserved.ensures.items in
    let next = begun_first s.program.now s.number s.stage s.locals s.frames.frames s.frames.room s.entries.items s.traces s.counts.rows _ s.prepared.items c.pop_front.new.self.items first stored in (
      subst IsClient (sym moved) (begun_kept kept c.keeps_sound.ensures.sound _ _ out next s.locals _ s.frames.room _ _ _ refl refl refl refl refl),
      stored_begun (length s.entries.items) (length c.push_reserved.new.self.items) (length c.pop_front.new.self.items) s.traces s.counts.rows
          (subst (AreStored (length s.entries.items) s.traces s.counts.rows) more stored) (ap length c.push_reserved.ensures.items ∙ length-append s.entries.items (s.locals ∷ [])),
      omega (arith, c.self.invariant.2, c.push_reserved.ensures.len, c.push_reserved.ensures.capacity, c.in-Some.ensures.len),
    )

pub enter-requires : goal.enter-requires
enter-requires c =
    let s = c.self.inside in
    let kept = c.self.invariant.0 in
    let stored = c.self.invariant.1 in
    let n = length s.entries.items in
    let out = ap (λ (d : ClientState). d.stage) c.self.view_is ∙ c.requires.out in
    let old = client_from s.program.now s.number s.stage s.locals s.frames.frames s.frames.room s.entries.items s.traces s.counts.rows s.prepared.items in
    let number : c.len-index.result ≡ n = c.len-index.ensures ∙ s.entries.ok.0 in
    let body = c.body.ensures.value ∙ ap (λ (b : BlockShape). b.body) (c.block.ensures.value ∙ ap (block_at s.program.now s.number) number) in
    let more = ap length c.in-Some.ensures.items in
    let many = many_prepared n s.traces s.counts.rows s.prepared.items stored in
    let ready = kept.prepared 0 absent_block (omega (arith, more, many)) in
    let fits : places_of (rest (block_at s.program.now s.number n).body) ≤ s.frames.room = subst (λ m. places_of (rest (block_at s.program.now s.number m).body) ≤ s.frames.room) (add-zero n) ready.frames in
    let none : s.frames.frames ≡ [] = subst (IsStaged old) out kept.staged in
    let empty = ap length none in
    let fits_body : places_of (rest c.body.result.now) ≤ s.frames.room = subst (λ (b : Statements). places_of (rest b) ≤ s.frames.room) (sym body) fits in
    omega (arith, fits_body, empty)

pub returns : goal.returns
returns c =
    let s = c.self.inside in
    let kept = c.self.invariant.0 in
    let stored = c.self.invariant.1 in
    let number : c.len-index.result ≡ length s.entries.items = c.len-index.ensures ∙ s.entries.ok.0 in
    let body = c.body.ensures.value ∙ ap (λ (b : BlockShape). b.body) (c.block.ensures.value ∙ ap (block_at s.program.now s.number) number) in
    let room = ap (λ (s : Stack). s.room) c.enter.ensures.entered in
    let frames = ap (λ (s : Stack). s.frames) c.enter.ensures.entered ∙ ap (λ b. s.frames.frames ++ rest b ∷ []) body in
    let q = c.in-Some.prepared in
    let first = c.in-Some.ensures.items in
    let old = client_from s.program.now s.number s.stage s.locals s.frames.frames s.frames.room s.entries.items s.traces s.counts.rows s.prepared.items in
    let new = client_from s.program.now s.number stages.Within s.locals c.enter.new.self.frames c.enter.new.self.room c.push_reserved.new.self.items s.traces s.counts.rows c.pop_front.new.self.items in
    let moved = moved_begun s.program.now s.number s.stage s.locals s.frames.frames s.frames.room s.entries.items s.traces s.counts.rows q s.prepared.items c.pop_front.new.self.items first stored
    c.enter.new.self.frames c.enter.new.self.room c.push_reserved.new.self.items room frames c.push_reserved.ensures.items in
    let next = begun_first s.program.now s.number s.stage s.locals s.frames.frames s.frames.room s.entries.items s.traces s.counts.rows q s.prepared.items c.pop_front.new.self.items first stored in
    let x = first_prepared s.program.now s.number s.stage s.locals s.frames.frames s.frames.room s.entries.items s.traces s.counts.rows q in
    let later = ap (λ (d : ClientState). d.prepared) moved in
    let begins : Begins old c.prepared.inside.queues.items new = record {
      first = x;
      prepared = next ∙ ap (λ ps. x ∷ ps) (sym later);
      handed = c.prepared.view_is;
      client = moved ∙ ap (begun_with old x) (sym later);
    } in
    record { begins = subst (λ (d : ClientState). Begins d c.prepared.inside.queues.items new) c.self.view_is begins }
