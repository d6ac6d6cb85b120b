use Rattle.qs_messages.proofs.CertaintyLaws.{refused, zero}
use Rattle.qs_messages.proofs.warned.laws.certainties_are_so.Goals as goal

pub returns : goal.returns
returns c = record { so = record { refused = refused; zero = zero } }
