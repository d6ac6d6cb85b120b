-- When two objects are of one kind, whatever their numbers.
use Rattle.std.specs.Prelude.{Bool, true, false}
use Rattle.qs_objects.specs.declared.object.Kind.{Kind}
use Rattle.qs_objects.specs.declared.object.Kind.TheVariants.{Account, Buffer, Grid}

abbrev pub same_kind : Kind → Kind → Bool
same_kind (Account b) (Account c) = true
same_kind (Buffer k) (Buffer l) = true
same_kind (Grid n k) (Grid m l) = true
same_kind _ _ = false
