use Rattle.qs_check.specs.Checked.{IsCheckOf}
use Rattle.qs_check.proofs.WellFormed.{accepts_well_formed}
use Rattle.qs_check.proofs.checker.check.Goals as goal

pub returns : goal.returns
returns c =
    let checked : IsCheckOf c.args.script c.check_formed.result = rw (← c.as_slice.ensures.same) c.check_formed.ensures.check in
    record { check = checked; well_formed = accepts_well_formed c.args.script c.check_formed.result c.keeps_form.ensures.form checked }
