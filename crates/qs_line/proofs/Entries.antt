-- The command `qs_app` is of the simple form for which clap's contracts say the matches and the kinds of error. The
-- proof of `matches_of` needs this before it can use them. Both facts are found by computing the test on the command.
use Rattle.std.proofs.Common.{◌≡◌, true, refl}
use Rattle.clap.specs.Faults.{is_simple_and_free}
use Rattle.clap.specs.Words.{is_simple}
use Rattle.clap.proofs.OnLiterals.{clap_on_literals}
use Rattle.qs_line.specs.audit.Command.{qs_app}

pub qs_is_simple : is_simple qs_app ≡ true
unfolding clap_on_literals
qs_is_simple = refl

pub qs_is_simple_and_free : is_simple_and_free qs_app ≡ true
unfolding clap_on_literals
qs_is_simple_and_free = refl
