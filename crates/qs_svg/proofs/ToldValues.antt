-- How many values are told from some place on: one and those after it, where it has room, and else none.
use Rattle.qs_svg.proofs.Common.{◌≡◌, ◌<◌, ◌≤◌, ◌-◌, ℕ, suc, true, false, ℤ, pos, List, length, get_or, drop, nat_le, ap, ◌∙◌, arith, if◌then◌else◌, drop-cons, nat_tests, told_in, value_size, rules}

pub one_more_told : (values : List ℤ) (i room : ℕ) → i < length values → value_size (get_or values i (pos 0)) ≤ room
    → told_in room (drop i values) ≡ suc (told_in (room - value_size (get_or values i (pos 0))) (drop (suc i) values))
one_more_told values i room within fits = search (rules, drop-cons)

pub stops_here : (values : List ℤ) (i room : ℕ) → i < length values → room < value_size (get_or values i (pos 0))
    → told_in room (drop i values) ≡ 0
stops_here values i room within none = search (rules, drop-cons)
