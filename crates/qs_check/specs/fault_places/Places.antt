-- Beside what the headline reaches (`audit/fault_places/Places.antt`): what else contracts and proofs use.
use Rattle.std.specs.Prelude.{◌≡◌, ◌≢◌, [], Result, Ok, Err}
use Rattle.qs_check.specs.declared.fault_places.fault.CheckFault.{CheckFault}
use Rattle.qs_check.specs.declared.fault_places.fault.CheckFault.TheVariants as f
use Rattle.qs_check.specs.audit.fault_places.Places.{Scope, ScopeOrFault}

-- what is known after a client, whose variables are its own
abbrev pub without_variables : Scope → Scope
without_variables s = record s { variables = [] }

-- what is met, when the last client is over
abbrev pub over : ScopeOrFault → ScopeOrFault
over (Ok s) = Ok (without_variables s)
over (Err fault) = Err fault

-- what a call of the code says: the first fault, or the scope that it leaves; out of memory says nothing
abbrev pub Fails : CheckFault → ScopeOrFault → Type 0
Fails fault m = fault ≢ f.Memory → m ≡ Err fault

abbrev pub Meets : {X : Type 0} → Result X CheckFault → ScopeOrFault → Scope → Type 0
Meets (Ok x) m s = m ≡ Ok s
Meets (Err fault) m s = Fails fault m
