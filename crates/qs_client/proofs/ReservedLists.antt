-- A block reserves at most 8 handlers, each among the 8. The idea: a code is that of a sound program (`IsCode`), whose
-- checks say it.
use Rattle.std.proofs.Common.{◌≡◌, ℕ, ◌<◌, ◌≤◌, true, List, length, ap, arith}
use Rattle.qs_program.specs.audit.Program.{ProgramShape, block_at, blocks_of}
use Rattle.qs_program.specs.audit.Sound.{is_in}
use Rattle.qs_program.specs.Sound.{IsSound, IsSoundBlock}
use Rattle.qs_program.proofs.Bounds.{sound_block}
use Rattle.qs_program.specs.audit.Limits.{most_handlers}
use Rattle.qs_graph.proofs.Ranges.{is_in-all}
use Rattle.qs_syncset.proofs.ShortLists.{few_reserved}
use Rattle.qs_syncset.specs.audit.Codes.{ClientCode, code_at}
use Rattle.qs_syncset.specs.Codes.{IsCode}
use Rattle.qs_client.proofs.run.CodeBounds.{client_inside}

-- a handler of a block's list is one of 8
pub reserved_below_eight : (p : ProgramShape) (c k : ℕ) → IsSound p → k < blocks_of p c → (h : ℕ) → is_in (block_at p c k).reserved h ≡ true → h < most_handlers
reserved_below_eight p c k sound inside h member =
    let block : IsSoundBlock p.objects (block_at p c k) = sound_block p c k sound (client_inside p c k inside) inside in
    let below : h < length p.objects = is_in-all (λ o. o < length p.objects) (block_at p c k).reserved h member block.reserved in
    omega (arith, below, sound.objects)

-- a block reserves at most 8 objects
pub few_objects : (code : ClientCode) (k : ℕ) → IsCode code → k < length code.blocks → length (code_at code k).reserved ≤ most_handlers
few_objects code k w inside =
    let p = w.program in
    let here : k < blocks_of p w.client = omega (arith, inside, w.of.count) in
    let few = few_reserved p w.client k w.sound (client_inside p w.client k here) here in
    let same = ap (λ (hs : List ℕ). length hs) (w.of.blocks k here).reserved in
    omega (arith, few, same)
