-- A run that is over.
use Rattle.std.specs.Prelude.{◌≡◌, true, map}
use Rattle.qs_played.specs.audit.Played.{Played}

-- each block has ended, and the run is finished
pub record IsOver (o : Played) : Type 0 where
  pub ended : o.ended ≡ map (λ t. true) o.order
  pub finished : o.finished ≡ true
