-- Faults of the input.
use Rattle.std.specs.Prelude.{◌≡◌, ◌<◌, ◌++◌, ℕ, List, Bool, true, false, Option, Result, Ok, Err, Vec, length}
use Rattle.std.specs.Global.{Global}
use Rattle.std.specs.Io.KnownBytes.{Consumes, IsAtEnd}
use Rattle.qs_serve.specs.declared.input.InputFault.{InputFault}
use Rattle.qs_serve.specs.declared.input.InputFault.TheVariants.{Read, Memory}

-- a read failed
abbrev pub is_read_fault : {X : Type 0} → Result X InputFault → Bool
is_read_fault (Ok x) = false
is_read_fault (Err Read) = true
is_read_fault (Err Memory) = false

-- more bytes were read after a front, up to a number of bytes or to the end
pub record IsReadOn (old new : Option (List ℕ)) (longest : ℕ) (front : List ℕ) (v : Vec ℕ Global) : Type 0 where
  pub more : List ℕ
  pub bytes : v.items ≡ front ++ more
  pub read : Consumes old new more
  pub end : length v.items < longest → IsAtEnd new
