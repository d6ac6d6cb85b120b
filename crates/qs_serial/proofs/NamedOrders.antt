-- A list of clients is read from its beginning, with a count of the blocks that each client has begun: the order that
-- the whole list names is legal exactly where the rest of the list names a legal rest from these counts. The loop of
-- `names_order` has this as its invariant. It goes by cases on whether the next client has a block left.
use Rattle.std.proofs.Common.{◌≡◌, ◌<◌, ℕ, suc, List, ◌∷◌, get_or, length, refl, sym, ap, ◌∙◌, subst, arith, length-set, slice_set}
use Rattle.qs_program.specs.audit.Program.{ProgramShape, blocks_of}
use Rattle.qs_meaning.specs.audit.Reduced.{Counts}
use Rattle.qs_meaning.specs.audit.Serial.{IsLegal, LegalFrom}
use Rattle.qs_meaning.specs.audit.Solo.{put}
use Rattle.qs_serial.specs.audit.NamedOrders.{order_from, order_of}
use Rattle.qs_serial.proofs.Lookups.{lookup-set}

abbrev pub counts : List ℕ → Counts
counts begun c = get_or begun c 0

-- the rest of a list, from counts of begun blocks
abbrev pub RestIsLegal : ProgramShape → Counts → List ℕ → Type 0
RestIsLegal p begun rest = LegalFrom p begun (order_from begun rest)

pub record IsReadSoFar (p : ProgramShape) (clients rest begun : List ℕ) : Type 0 where
  pub long : length begun ≡ 8
  pub forth : IsLegal p (order_of clients) → RestIsLegal p (counts begun) rest
  pub back : RestIsLegal p (counts begun) rest → IsLegal p (order_of clients)

module _ (p : ProgramShape) (clients : List ℕ) (c : ℕ) (rest begun : List ℕ) (now : IsReadSoFar p clients (c ∷ rest) begun) where
  pub read_on : c < 8 → counts begun c < blocks_of p c → (later : List ℕ) → later ≡ slice_set begun c (suc (counts begun c)) → IsReadSoFar p clients rest later
  read_on within left later set = record {
    long = ap length set ∙ length-set begun c (suc (counts begun c)) ∙ now.long;
    forth = λ legal. subst (λ b. RestIsLegal p b rest) (sym same) (now.forth legal).2;
    back = λ legal. now.back (refl, left, subst (λ b. RestIsLegal p b rest) same legal);
  }
    where
      same : ◌≡◌ {A = Counts} (counts later) (put (counts begun) c (suc (counts begun c)))
      same = ap counts set ∙ lookup-set begun c (suc (counts begun c)) 0 (let long = now.long in omega (arith, within, long))
