use Rattle.std.proofs.Common.{◌≡◌, Ok, Err, refl}
use Rattle.qs_conditions.specs.Signs.{signs_of}
use Rattle.qs_conditions.specs.Reading.{tree_of}
use Rattle.qs_conditions.proofs.Complete.{no_condition}
use Rattle.qs_conditions.proofs.Sound.{condition_sound}
use Rattle.qs_conditions.proofs.ReadTexts.{steps_found, steps_not_found}
use Rattle.qs_conditions.proofs.reader.read_condition.Goals as goal

pub returns-in-Ok : goal.returns-in-Ok
returns-in-Ok c =
    let ts = c.as_slice-all.result.now in
    let cut : signs_of c.args.text.now ≡ Ok ts = rw c.as_slice-all.ensures.value c.in_ok-signs.ensures.signs in
    let e = c.in-Ok.ensures.exact in
    record {
      exact = (e.0, record { signs = ts; cut = cut; tree = condition_sound e.0 ts e.1 }, e.2);
      found = steps_found c.args.text.now ts e.0 c.in-Ok.condition cut e.1 e.2;
      none = tt;
    }

pub returns-in-Err-Form : goal.returns-in-Err-Form
returns-in-Err-Form c =
    let ts = c.as_slice-all.result.now in
    let left = c.in-Err-Form.left in
    let cut : signs_of c.args.text.now ≡ Ok ts = rw c.as_slice-all.ensures.value c.in_ok-signs.ensures.signs in
    let stops : tree_of ts ≡ Err left = rw c.in-Err-Form.field-0-is at c.in-Err-Form.ensures.exact in
    rw c.form_fault.ensures.form (record { found = tt; none = steps_not_found c.args.text.now ts left cut stops; exact = (ts, cut, no_condition ts left stops, (left, stops, refl)) })
