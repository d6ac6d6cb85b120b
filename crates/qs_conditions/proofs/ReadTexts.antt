-- What the definitions compute to for a text is what the text means. The worked examples stand on it.
use Rattle.std.proofs.Common.{◌≡◌, ℕ, List, sym, ap, ◌∙◌, Some, None, Ok, Err}
use Rattle.qs_conditions.specs.declared.signs.Placed.{Placed}
use Rattle.qs_conditions.specs.Conditions.{Tree, steps_of}
use Rattle.qs_conditions.specs.Signs.{signs_of}
use Rattle.qs_conditions.specs.Reading.{tree_of, whole_sum}
use Rattle.qs_conditions.specs.Reads.{condition_in, steps_by_signs, steps_by_tree, sum_by_reading, sum_by_signs, sum_in}
use Rattle.qs_conditions.specs.declared.condition.Step.{Step}
use Rattle.qs_conditions.specs.declared.condition.Summand.{Summand}

-- the steps of a text, by its signs and its tree
pub steps_found : (text : List ℕ) (ts : List Placed) (c : Tree) (steps : List Step) → signs_of text ≡ Ok ts → tree_of ts ≡ Ok c → steps ≡ steps_of c → condition_in text ≡ Some steps
steps_found text ts c steps cut read same = ap steps_by_signs cut ∙ ap steps_by_tree read ∙ ap Some (sym same)

pub steps_not_found : (text : List ℕ) (ts : List Placed) (left : ℕ) → signs_of text ≡ Ok ts → tree_of ts ≡ Err left → condition_in text ≡ None
steps_not_found text ts left cut read = ap steps_by_signs cut ∙ ap steps_by_tree read

-- the values of a sum's text
pub sum_found : (text : List ℕ) (ts : List Placed) (xs : List Summand) → signs_of text ≡ Ok ts → whole_sum ts ≡ Ok xs → sum_in text ≡ Some xs
sum_found text ts xs cut read = ap sum_by_signs cut ∙ ap sum_by_reading read

pub sum_not_found : (text : List ℕ) (ts : List Placed) (left : ℕ) → signs_of text ≡ Ok ts → whole_sum ts ≡ Err left → sum_in text ≡ None
sum_not_found text ts left cut read = ap sum_by_signs cut ∙ ap sum_by_reading read
