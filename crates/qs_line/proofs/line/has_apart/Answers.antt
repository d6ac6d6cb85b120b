use Rattle.qs_line.specs.audit.Apart.{has_apart}
use Rattle.qs_line.proofs.line.has_apart.Goals as goal

pub returns : goal.returns
unfolding has_apart
returns c = record { apart = c.has_pair.ensures.pair }
