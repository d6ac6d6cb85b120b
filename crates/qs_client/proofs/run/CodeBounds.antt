-- What a client relies on in its code: a handler of a block's list is one of 8, blocks are few, and no graph is longer
-- than the longest. The code needs it for its indexes and its room. The idea: a code is that of a sound program
-- (`IsCode`), whose checks say it.
use Rattle.std.proofs.Common.{◌≡◌, inl, inr, ℕ, suc, ◌<◌, ◌≤◌, List, ◌∷◌, length, get_or, ap, arith}
use Rattle.std.proofs.lemmas.Bool.{cases_lt}
use Rattle.std.proofs.lemmas.List.{get_or_past}
use Rattle.qs_objects.proofs.Elements.{AllByRecursion-get_or}
use Rattle.qs_program.specs.audit.Program.{ProgramShape, block_at, blocks_of, client_at, no_client}
use Rattle.qs_program.specs.Sound.{IsSoundBlock, IsSoundClient}
use Rattle.qs_program.proofs.Bounds.{sound_block}
use Rattle.qs_program.specs.audit.Limits.{most_blocks, most_handlers}
use Rattle.qs_syncset.specs.audit.Codes.{BlockCode, ClientCode, code_at, no_code}
use Rattle.qs_syncset.specs.Codes.{IsCode}
use Rattle.qs_client.specs.audit.run.BlockSizes.{longest}

-- a client that has blocks is a client of the program
pub client_inside : (p : ProgramShape) (c k : ℕ) → k < blocks_of p c → c < length p.clients
client_inside p c k inside = elim (cases_lt c (length p.clients)) [
  | inl lt ↦ lt
  | inr le ↦ absurd (omega (arith, inside, ap (λ (d : _). length d.blocks) (get_or_past p.clients c no_client le)))
]

pub below_eight : (code : ClientCode) (k i : ℕ) → IsCode code → k < length code.blocks → i < length (code_at code k).reserved
    → get_or (code_at code k).reserved i 0 < most_handlers
below_eight code k i w inside at =
    let p = w.program in
    let here : k < blocks_of p w.client = omega (arith, inside, w.of.count) in
    let block : IsSoundBlock p.objects (block_at p w.client k) = sound_block p w.client k w.sound (client_inside p w.client k here) here in
    let same : (code_at code k).reserved ≡ (block_at p w.client k).reserved = (w.of.blocks k here).reserved in
    let below : get_or (block_at p w.client k).reserved i 0 < length p.objects =
    AllByRecursion-get_or (λ h. h < length p.objects) (block_at p w.client k).reserved i 0 block.reserved (omega (arith, at, ap length same)) in
    omega (arith, below, w.sound.objects, ap (λ hs. get_or hs i 0) same)

pub few_blocks : (code : ClientCode) → IsCode code → length code.blocks ≤ most_blocks
few_blocks code w = elim (cases_lt 0 (length code.blocks)) [
  | inl lt ↦
      let p = w.program in
      let here : 0 < blocks_of p w.client = omega (arith, lt, w.of.count) in
      let client : IsSoundClient p.objects (client_at p w.client) =
      AllByRecursion-get_or (IsSoundClient p.objects) p.clients w.client no_client w.sound.each (client_inside p w.client 0 here) in
      omega (arith, client.blocks, w.of.count)
  | inr le ↦ omega (arith, le)
]

-- each graph is as long as the longest at most
pub longest_covers : (bs : List BlockCode) (k : ℕ) → length (get_or bs k no_code).graph ≤ longest bs
longest_covers (b ∷ bs) (suc k) = omega (arith, longest_covers bs k)
longest_covers _ _ = omega arith
