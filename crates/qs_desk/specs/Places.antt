-- What a client's mark says, and the share that a client begins with.
use Rattle.std.specs.Prelude.{ℕ, nat_lt, if◌then◌else◌, List, [], ◌∷◌, length, Option, Some, None}
use Rattle.qs_program.specs.audit.Program.{ProgramShape}
use Rattle.qs_desk.specs.Views.{ShareView}
use Rattle.qs_desk.specs.declared.share.LedgerShare.{LedgerShare}
use Rattle.qs_desk.specs.declared.share.LedgerShare.TheVariants.{First, Second, Third, Fourth, Fifth, Sixth, Seventh, Eighth}

module _ {D : Type 0} where
  abbrev pub client_of_ledger : LedgerShare D → ℕ
  client_of_ledger (First m) = 0
  client_of_ledger (Second m) = 1
  client_of_ledger (Third m) = 2
  client_of_ledger (Fourth m) = 3
  client_of_ledger (Fifth m) = 4
  client_of_ledger (Sixth m) = 5
  client_of_ledger (Seventh m) = 6
  client_of_ledger (Eighth m) = 7

  abbrev pub parts_of : LedgerShare D → ℕ
  parts_of (First m) = m.parts
  parts_of (Second m) = m.parts
  parts_of (Third m) = m.parts
  parts_of (Fourth m) = m.parts
  parts_of (Fifth m) = m.parts
  parts_of (Sixth m) = m.parts
  parts_of (Seventh m) = m.parts
  parts_of (Eighth m) = m.parts

  abbrev pub amount_of : LedgerShare D → ℕ
  amount_of (First m) = m.amount
  amount_of (Second m) = m.amount
  amount_of (Third m) = m.amount
  amount_of (Fourth m) = m.amount
  amount_of (Fifth m) = m.amount
  amount_of (Sixth m) = m.amount
  amount_of (Seventh m) = m.amount
  amount_of (Eighth m) = m.amount

-- the places of clients and of handlers
abbrev pub places : List ℕ
places = 0 ∷ 1 ∷ 2 ∷ 3 ∷ 4 ∷ 5 ∷ 6 ∷ 7 ∷ []

-- a share of each client that the program has, with nothing booked
abbrev pub share_at : ProgramShape → ℕ → Option ShareView
share_at p c = if nat_lt c (length p.clients) then Some (record { client = c; count = 0 }) else None
