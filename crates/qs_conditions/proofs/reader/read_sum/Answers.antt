use Rattle.std.proofs.Common.{◌≡◌, Ok, Err, refl}
use Rattle.qs_conditions.specs.Signs.{signs_of}
use Rattle.qs_conditions.specs.Reading.{whole_sum}
use Rattle.qs_conditions.proofs.Complete.{no_sum}
use Rattle.qs_conditions.proofs.Sound.{whole_sum_sound}
use Rattle.qs_conditions.proofs.ReadTexts.{sum_found, sum_not_found}
use Rattle.qs_conditions.proofs.reader.read_sum.Goals as goal

pub returns-in-Ok : goal.returns-in-Ok
returns-in-Ok c =
    let ts = c.as_slice-all.result.now in
    let cut : signs_of c.args.text.now ≡ Ok ts = rw c.as_slice-all.ensures.value c.in_ok-signs.ensures.signs in
    record {
      exact = record { signs = ts; cut = cut; sum = whole_sum_sound c.in-Ok.sum ts c.in-Ok.ensures.exact };
      found = sum_found c.args.text.now ts c.in-Ok.sum cut c.in-Ok.ensures.exact;
      none = tt;
    }

pub returns-in-Err-Form : goal.returns-in-Err-Form
returns-in-Err-Form c =
    let ts = c.as_slice-all.result.now in
    let left = c.in-Err-Form.left in
    let cut : signs_of c.args.text.now ≡ Ok ts = rw c.as_slice-all.ensures.value c.in_ok-signs.ensures.signs in
    let stops : whole_sum ts ≡ Err left = rw c.in-Err-Form.field-0-is at c.in-Err-Form.ensures.exact in
    rw c.form_fault.ensures.form (record { found = tt; none = sum_not_found c.args.text.now ts left cut stops; exact = (ts, cut, no_sum ts left stops, (left, stops, refl)) })
