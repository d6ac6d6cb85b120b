-- Standings one behind another: the parts of all lie in four lists, and of each is noted where its own lie.
use Rattle.std.specs.Prelude.{◌≡◌, ◌≤◌, ◌+◌, List, drop, length, take}
use Rattle.qs_standings.specs.Standings.{StandingShape}
use Rattle.qs_standings.specs.Variables.{IsSpread, spread}
use Rattle.qs_standings.specs.declared.packed.Span.{Span}
use Rattle.qs_standings.specs.declared.packed.Place.{Place}
use Rattle.qs_standings.specs.declared.packed.Pieces.{Pieces}

-- a part of a list
abbrev pub cut : {X : Type 0} → Span → List X → List X
cut span xs = take span.len (drop span.first xs)

-- a list has another as its front
abbrev pub IsFront : {X : Type 0} → List X → List X → Type 0
IsFront xs ys = take (length xs) ys ≡ xs

-- a list has another as its part
pub record LiesAt {X : Type 0} (span : Span) (own all : List X) : Type 0 where
  pub within : span.first + span.len ≤ length all
  pub same : cut span all ≡ own

-- all that was there lies where it lay
pub record IsGrown (old new : Pieces) : Type 0 where
  pub orders : IsFront old.orders.items new.orders.items
  pub begun : IsFront old.begun.items new.begun.items
  pub numbers : IsFront old.numbers.items new.numbers.items
  pub objects : IsFront old.objects.items new.objects.items

-- the standing whose parts lie at a place
abbrev pub standing_at : Pieces → Place → StandingShape
standing_at pieces place = record {
  order = cut place.order pieces.orders.items;
  begun = cut place.begun pieces.begun.items;
  locals = spread place.width place.clients (cut place.numbers pieces.numbers.items);
  states = cut place.objects pieces.objects.items;
}

-- a place is one of these lists
pub record IsPlaced (pieces : Pieces) (place : Place) : Type 0 where
  pub order : place.order.first + place.order.len ≤ length pieces.orders.items
  pub begun : place.begun.first + place.begun.len ≤ length pieces.begun.items
  pub numbers : place.numbers.first + place.numbers.len ≤ length pieces.numbers.items
  pub objects : place.objects.first + place.objects.len ≤ length pieces.objects.items
  pub spread : IsSpread place.width place.clients (cut place.numbers pieces.numbers.items)

-- a standing lies at a place
pub record IsKept (pieces : Pieces) (place : Place) (standing : StandingShape) : Type 0 where
  pub placed : IsPlaced pieces place
  pub same : standing_at pieces place ≡ standing
