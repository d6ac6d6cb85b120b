-- Each checked program has codes in each mode: each client has its own, and there are none beyond the clients. That
-- every beginning of a run goes on, and to which end, is said of runs with such codes.
use Rattle.std.proofs.Common.{◌≡◌, ◌∙◌, ℕ, zero, suc, ◌≤◌, arith, List, [], ◌∷◌, length, refl, rules}
use Rattle.qs_played.proofs.Names.{ProgramShape, blocks_of, IsSound}
use Rattle.qs_core_laws.proofs.Names.{Mode, BlockCode, ClientCode, AreCodes, no_block_beyond}
use Rattle.qs_syncset.proofs.ProgramCodes.{client_code, own_code}

module _ (p : ProgramShape) (sound : IsSound p) (mode : Mode) where
  pub program_codes : (code : ℕ → ClientCode) × AreCodes p mode code
  program_codes = (
    client_code p sound mode,
    record {
      own = λ c less. own_code p sound mode c;
      none = λ c past. no_blocks (client_code p sound mode c).blocks
          ((own_code p sound mode c).count ∙ none c past (blocks_of p c) refl);
    },
  )
    where
      none : (c : ℕ) → length p.clients ≤ c → (n : ℕ) → blocks_of p c ≡ n → blocks_of p c ≡ 0
      none c past v is = grind (arith, no_block_beyond)

      no_blocks : (bs : List BlockCode) → length bs ≡ 0 → bs ≡ []
      no_blocks [] e = refl
      no_blocks (b ∷ bs) e = absurd (let n : length (b ∷ bs) ≡ 0 = e in omega (arith, n))
