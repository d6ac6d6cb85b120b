-- A stack of frames that was once as tall as it must be.
use Rattle.std.specs.Prelude.{◌≡◌, ◌≤◌, ℕ, ◌+◌, Vec, vec_len, vec_capacity}
use Rattle.std.specs.Global.{Global}
use Rattle.qs_plain.specs.declared.client.frames.Frame.{Frame}

-- the same frames, with room for so many more
pub record Grows (old new : Vec Frame Global) (more : ℕ) : Type 0 where
  pub items : new.items ≡ old.items
  pub len : vec_len new ≡ vec_len old
  pub room : vec_len new + more ≤ vec_capacity new
  pub larger : vec_capacity old ≤ vec_capacity new
