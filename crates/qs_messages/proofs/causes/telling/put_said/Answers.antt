use Rattle.std.proofs.Common.{refl}
use Rattle.std.proofs.lemmas.Result.{on_ok_weaker}
use Rattle.qs_diagnosis.specs.declared.told.Diagnosis.{Diagnosis}
use Rattle.qs_diagnosis.specs.Diagnoses.{IsTold}
use Rattle.qs_messages.proofs.causes.telling.put_said.Goals as goal

pub returns : goal.returns
returns c =
    let diagnosis : Diagnosis = record { span = c.args.span; cause = c.as_slice.result; label = c.as_slice-2.result; help = c.as_slice-3.result } in
    record {
      told = on_ok_weaker c.put_diagnosis.result (λ (told : IsTold c.args.text.now diagnosis c.args.out.now.items c.put_diagnosis.new.out.items). record {
        diagnosis = diagnosis;
        there = refl;
        told = told;
      }) c.put_diagnosis.ensures.ok;
    }
