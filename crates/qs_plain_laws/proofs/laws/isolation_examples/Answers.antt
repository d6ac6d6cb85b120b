use Rattle.std.proofs.Common.{refl}
use Rattle.qs_plain_laws.specs.PlainSchedule.{scheduled}
use Rattle.qs_plain_laws.proofs.laws.isolation_examples.Goals as goal

pub returns : goal.returns
unfolding scheduled
returns c = record {
  examples = record {
    greater_first = record { tickets = refl; serial_first = refl; serial_second = refl; before_first = refl; before_second = refl };
    smaller_first = record { tickets = refl; serial_first = refl; serial_second = refl; before_first = refl; before_second = refl };
    first_waits = refl;
    second_waits = refl;
    nothing_ran = refl;
    query_waits = refl;
    others = refl;
  };
}
