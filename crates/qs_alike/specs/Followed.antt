-- The orders that a search follows where alike clients may change places: all legal ones, or those that are reduced up to
-- changes.
use Rattle.std.specs.Prelude.{◌≡◌, ◌<◌, ◌++◌, ℕ, true, List, [], ◌∷◌}
use Rattle.qs_objects.specs.declared.held.Ticket.{Ticket}
use Rattle.qs_program.specs.audit.Program.{ProgramShape, blocks_of}
use Rattle.qs_meaning.specs.audit.Configurations.{Configuration, configuration_after, one_block_on}
use Rattle.qs_meaning.specs.Reduced.{goes_on}
use Rattle.qs_alike.specs.Arranged.{IsArranged}
use Rattle.qs_alike.specs.Changes.{Becomes, Classes}

-- Whether a client goes on, up to changes: where the places of each class are put in order, a client of its class goes
-- on that has begun as many blocks. Where all are alone, it goes on itself.
pub record GoesOnUpTo (p : ProgramShape) (k : Classes) (g : Configuration) (c : ℕ) : Type 0 where
  pub arranged : Configuration
  pub becomes : Becomes k g arranged
  pub in_order : IsArranged k arranged
  pub place : ℕ
  pub alike : k place ≡ k c
  pub begun : arranged.begun place ≡ g.begun c
  pub goes : goes_on p arranged.begun place ≡ true

-- which orders a search follows
pub data Orders : Type 0 where
  only_reduced : Orders
  all_legal : Orders

-- a client that is followed: one that goes on, or any that has a block left
abbrev pub Follows : ProgramShape → Classes → Orders → Configuration → ℕ → Type 0
Follows p k only_reduced g c = GoesOnUpTo p k g c
Follows p k all_legal g c = g.begun c < blocks_of p c

-- each next client of an order is followed
abbrev pub IsFollowedFrom : ProgramShape → Classes → Orders → Configuration → List Ticket → Type 0
IsFollowedFrom p k o g [] = Unit {0}
IsFollowedFrom p k o g (t ∷ ts) = Follows p k o g t.client × IsFollowedFrom p k o (one_block_on p t.client g) ts

-- an order that begins with a front, after which each next client is followed
pub record IsFollowedAfter (p : ProgramShape) (k : Classes) (o : Orders) (front order : List Ticket) : Type 0 where
  pub rest : List Ticket
  pub whole : order ≡ front ++ rest
  pub followed : IsFollowedFrom p k o (configuration_after p front) rest
