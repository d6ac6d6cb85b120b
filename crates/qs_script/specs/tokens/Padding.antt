-- A name in sixteen bytes.
use Rattle.std.specs.Prelude.{ℕ, ◌≤◌, List, length, take}
use Rattle.qs_script.specs.declared.tokens.name.Name.TheInside.{Inside}

abbrev pub text_of : Inside → List ℕ
text_of n = take n.len n.bytes

abbrev pub IsWithinBytes : Inside → Type 0
IsWithinBytes n = n.len ≤ length n.bytes
