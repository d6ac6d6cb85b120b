use Rattle.std.proofs.Common.{refl}
use Rattle.qs_meaning.proofs.laws.meaning_examples.Goals as goal

pub returns : goal.returns
returns c = record {
  examples = record {
    deposit = record { answered = refl; state = refl };
    greater_first = record { answered = refl; state = refl };
    smaller_first = record { answered = refl; state = refl };
    other_list = record { answered = refl; state = refl };
    full = record { answered = refl; state = refl };
    row_sum = record { answered = refl; state = refl };
    left = record { answered = refl; state = refl };
    clamped = record { answered = refl; state = refl };
    transfer_first = record { answered = refl; giver = refl; taker = refl };
    transfer_between = record { answered = refl; giver = refl; taker = refl };
    transfer_last = record { answered = refl; giver = refl; taker = refl };
  };
}
