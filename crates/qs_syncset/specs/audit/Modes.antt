-- The modes of coalescing.
use Rattle.std.specs.Prelude.{Bool, true, false}
use Rattle.qs_syncset.specs.declared.mode.Mode.{Mode}
use Rattle.qs_syncset.specs.declared.mode.Mode.TheVariants.{Plain, Dynamic, Static, Both}

-- synchronisations are removed from graphs
abbrev pub is_static : Mode → Bool
is_static Plain = false
is_static Dynamic = false
is_static Static = true
is_static Both = true

-- a client tests whether it holds a handler, and skips the synchronisation then
abbrev pub is_dynamic : Mode → Bool
is_dynamic Plain = false
is_dynamic Dynamic = true
is_dynamic Static = false
is_dynamic Both = true
