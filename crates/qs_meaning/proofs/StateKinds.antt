-- No request changes an object's kind; so the states of a serial run stay of the declared kinds, from the declared
-- states on.
use Rattle.std.proofs.Common.{◌≡◌, ℕ, Bool, true, false, true≢false, ◌&&◌, replicate, pos, if◌then◌else◌, List, [], ◌∷◌, Option, Some, None, refl, sym, ◌∙◌}
use Rattle.qs_meaning.proofs.Common.{account, after, AllByRecursion, between, buffer, Content, Declared, fresh, grid, IsSome, IsSound, Kind, kind_of, Locals, no_object, object_at, ProgramShape, Request, same_shape, size_of, starts, State, Statements, text_of, Ticket}
use Rattle.qs_objects.specs.Laws.{SameShape}
use Rattle.qs_objects.specs.Operations.{fits}
use Rattle.qs_objects.specs.declared.Op.{Op}
use Rattle.qs_objects.specs.declared.object.Kind.TheVariants as kinds
use Rattle.qs_objects.specs.audit.Limits.{most_lines}
use Rattle.qs_meaning.specs.audit.Serial.{declared_states, state_or_none, zeros}
use Rattle.qs_meaning.specs.Serial.{SerialBlock, serial_from}
use Rattle.qs_meaning.specs.audit.Solo as alone
use Rattle.qs_meaning.specs.audit.Solo.{States, put, solo}
use Rattle.qs_meaning.specs.StateKinds.{IsOfKind, AreOfKind, SerialKeepsKinds}
use Rattle.qs_meaning.proofs.AlikeTraces.{all_at}
use Rattle.qs_meaning.proofs.StatesKept.{solo_keeps}

shape_fits : (c d : Content) → SameShape c d → (op : Op) → fits op (kind_of d) ≡ fits op (kind_of c)
shape_fits (account b) (account c) same op = refl
shape_fits (buffer k xs) (buffer l ys) same op = refl
shape_fits (grid k rows) (grid l others) same op = refl
shape_fits _ _ same op = absurd same

after_kind : (kind : Kind) (s : State) (r : Request) → IsOfKind kind s → IsOfKind kind (after s r)
after_kind kind s r is op = shape_fits s.content (after s r).content (same_shape s r.op r.args) op ∙ is op

solo_kinds : (p : ProgramShape) (b : Statements) (l : Locals) (st : States) → AreOfKind p st → AreOfKind p (solo b l st).states
solo_kinds p b l st are = solo_keeps (λ h. IsOfKind (object_at p h).kind) (λ h s r is. after_kind (object_at p h).kind s r is) b l st are

places_kinds : (p : ProgramShape) (order : List Ticket) (ls : ℕ → Locals) (st : States) → AreOfKind p st
    → AllByRecursion (λ (a : SerialBlock). AreOfKind p a.starts) (serial_from p ls st order).places × AreOfKind p (serial_from p ls st order).states
places_kinds p [] ls st are = (tt, are)
places_kinds p (t ∷ ts) ls st are =
    let o : alone.BlockResult = solo (text_of p t).body (ls t.client) st in
    let rest = places_kinds p ts (put ls t.client o.locals) o.states (solo_kinds p (text_of p t).body (ls t.client) st are) in
    ((are, rest.0), rest.1)

-- an object that starts has the kind from which it starts
start_kind : (kind : Kind) → IsSome (starts kind) → IsOfKind kind (state_or_none (starts kind))
start_kind (kinds.Account b) is op = by_case (between 0 b 1000000000000000)
  where
    by_case : (test : Bool) → fits op (kind_of (state_or_none (if test then Some (fresh (account b)) else None)).content) ≡ fits op (kinds.Account b)
    by_case true = refl
    by_case false = refl
start_kind (kinds.Buffer k) is op = by_case (between 1 k 1024) is
  where
    start : Bool → Option State
    start test = if test then Some (fresh (buffer (size_of k) [])) else None

    by_case : (test : Bool) → IsSome (start test) → fits op (kind_of (state_or_none (start test)).content) ≡ fits op (kinds.Buffer k)
    by_case true some = refl
    by_case false some = absurd (true≢false (sym some))
start_kind (kinds.Grid n k) is op = by_case (between 1 n most_lines && between 1 k most_lines) is
  where
    start : Bool → Option State
    start test = if test then Some (fresh (grid (size_of k) (replicate (size_of n) (replicate (size_of k) (pos 0))))) else None

    by_case : (test : Bool) → IsSome (start test) → fits op (kind_of (state_or_none (start test)).content) ≡ fits op (kinds.Grid n k)
    by_case true some = refl
    by_case false some = absurd (true≢false (sym some))

declared_kinds : (p : ProgramShape) → IsSound p → AreOfKind p (declared_states p)
declared_kinds p sound h =
    start_kind (object_at p h).kind (all_at (λ (o : Declared). IsSome (starts o.kind)) p.objects h no_object sound.kinds refl)

pub serial_keeps_kinds : SerialKeepsKinds
serial_keeps_kinds p sound order = places_kinds p order (λ _. zeros) (declared_states p) (declared_kinds p sound)
