-- A command never answers, a query answers, a request that does not fit does nothing, and objects keep their kind and
-- their range. The proofs on journals, lanes and private queues use these laws as lemmas. Each goes by cases on the
-- object and the operation, which the proof search or arithmetic finds.
use Rattle.std.proofs.Common.{◌≡◌, Bool, true, false, List, [], ℤ, pos, if◌then◌else◌, Option, arith, rules, refl, replicate, None, IsSome}
use Rattle.std.proofs.lemmas.Grind.{common_steps}
use Rattle.std.proofs.lemmas.List.{length-replicate, length-set}
use Rattle.qs_objects.proofs.GridRows.{even_filled, even_with_cell}
use Rattle.qs_objects.specs.audit.Act.{State, account, buffer, grid}
use Rattle.qs_objects.specs.audit.Objects.{kind_of}
use Rattle.qs_objects.specs.audit.Operations.{is_query, arity, is_of_account, is_of_buffer}
use Rattle.qs_objects.specs.Operations.{fits}
use Rattle.qs_objects.specs.declared.Op.{Op}
use Rattle.qs_objects.specs.Laws.{IsCommand, CommandsNeverAnswer, QueriesAnswer, ShapesStay, RangesBegin, RangesStay}

pub never_answers : CommandsNeverAnswer
never_answers = search rules

pub answers : QueriesAnswer
answers = search rules

pub same_shape : ShapesStay
same_shape = search (rules, length-replicate)

pub begins_in_range : RangesBegin
begins_in_range = grind (arith, common_steps, length-replicate, even_filled)

pub stays_in_range : RangesStay
stays_in_range = grind (arith, common_steps, length-replicate, length-set, even_filled, even_with_cell)

-- each operation is one of some object
home : Op → State
home op = record {
  content = if is_of_account op then account (pos 0) else if is_of_buffer op then buffer 1 [] else grid 1 [];
  refused = pos 0;
}

at_home : (op : Op) → fits op (kind_of (home op).content) ≡ true
unfolding home
at_home = search rules

-- what never answers is no query
pub command_is : (op : Op) → IsCommand op → is_query op ≡ false
command_is op never = by_asks (is_query op) refl
  where
    nothing : {x : Option ℤ} → x ≡ None → IsSome x → ⊥
    nothing e some = search rules

    numbers : List ℤ
    numbers = replicate (arity op) (pos 0)

    by_asks : (asks : Bool) → is_query op ≡ asks → is_query op ≡ false
    by_asks false e = e
    by_asks true e = absurd (nothing (never (home op) numbers) (answers (home op) op numbers e (at_home op) (length-replicate (arity op) (pos 0))))
