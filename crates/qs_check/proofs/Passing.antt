-- The block with which a count passes its limit counts in the whole: so the load, or the weight, of the program is past
-- its limit too.
use Rattle.std.proofs.Common.{◌≡◌, ◌<◌, ◌≤◌, ◌+◌, ℕ, min, List, Option, Some, None, refl, subst, sym, sum_by, slice_index_or, arith, MatchOption, lt-ltb, le-ltb}
use Rattle.std.proofs.lemmas.Bool.Decides.{nat_tests}
use Rattle.std.proofs.lemmas.List.Sums.{sum_by_more_le}
use Rattle.qs_check.specs.declared.fault_places.fault.CheckFault.TheVariants as f
use Rattle.qs_program.specs.audit.Limits.{most_requests, most_steps}
use Rattle.qs_program.specs.audit.Program.{BlockShape, ClientShape, ProgramShape, no_block, no_client, whole_load, whole_weight}
use Rattle.qs_check.specs.declared.excess.Measure.{Measure}
use Rattle.qs_check.specs.declared.excess.Measure.TheVariants.{Load, Weight}
use Rattle.qs_check.specs.declared.excess.Excess.{Excess}
use Rattle.qs_check.specs.audit.Checked.{excess_of}
use Rattle.qs_check.specs.Excess.{counted_by, counted_in, limit_by, fault_by, IsPassedBy, IsFirstExcess}
use Rattle.qs_check.proofs.WellFormed.{no_fault_left}

at_most : (x y n : ℕ) → n ≡ min x y → n ≤ x
at_most x y n h = grind (arith, nat_tests)

-- the whole count is past the limit
pub whole_passes : (m : Measure) (clients : List ClientShape) (e : Excess) → IsPassedBy m clients e → limit_by m < counted_in m clients
whole_passes m clients e h =
    let client : ClientShape = slice_index_or clients e.client no_client in
    let block : BlockShape = slice_index_or client.blocks e.block no_block in
    let inside = sum_by_more_le (counted_by m) client.blocks e.block no_block h.passed.block in
    let whole = sum_by_more_le (λ (c : ClientShape). sum_by (counted_by m) c.blocks) clients e.client no_client h.client in
    let own = at_most (counted_by m block) (limit_by m + 1) e.count h.passed.count in
    omega (arith, inside, whole, own, h.passed.before, h.passed.passes)

-- a weight past its limit is the fault where the load keeps its own
pub weight_passes : (p : ProgramShape) (e : Excess) → whole_load p ≤ most_requests → IsPassedBy Weight p.clients e → excess_of p ≡ Some f.Weight
weight_passes p e keeps h =
    rw (le-ltb 100000 (whole_load p) keeps, lt-ltb 1000000 (whole_weight p) (whole_passes Weight p.clients e h)) refl

-- by the measure of the block that was found
by_measure : (p : ProgramShape) (m : Measure) (e : Excess) → excess_of p ≡ Some (fault_by m) → IsPassedBy m p.clients e
    → (excess_of p ≡ Some (fault_by e.measure)) × IsPassedBy e.measure p.clients e
by_measure p m e is h =
    subst (λ m. (excess_of p ≡ Some (fault_by m)) × IsPassedBy m p.clients e) (sym h.passed.measure) (is, h)

pub first_load : (p : ProgramShape) (e : Excess) → IsPassedBy Load p.clients e → (excess_of p ≡ Some (fault_by e.measure)) × IsPassedBy e.measure p.clients e
first_load p e h = by_measure p Load e (rw (lt-ltb 100000 (whole_load p) (whole_passes Load p.clients e h)) refl) h

-- what is found where the load keeps its limit
pub after_load : (p : ProgramShape) (r : Option Excess) → counted_in Load p.clients ≤ most_requests
    → MatchOption r (counted_in Weight p.clients ≤ most_steps) (IsPassedBy Weight p.clients) → IsFirstExcess p r
after_load p None load h = no_fault_left p load h
after_load p (Some e) load h = by_measure p Weight e (weight_passes p e load h) h
