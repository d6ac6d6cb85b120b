use Rattle.std.proofs.Common.{◌≡◌, Err, false, map, rules, sym, subst}
use Rattle.clap.specs.Faults.{fault_of}
use Rattle.clap.specs.Words.{subcommand_of}
use Rattle.qs_line.specs.audit.Command.{qs_app}
use Rattle.qs_line.specs.audit.Line.{asks_language}
use Rattle.qs_line.specs.Line.{IsAnswer, line_in, request_met}
use Rattle.qs_line.proofs.Alike.{qs_alike}
use Rattle.qs_line.proofs.Answering.{fault_is_answer, handed_on, other_line}
use Rattle.qs_line.proofs.line.read_line.Goals as goal

pub returns-in_err-matches : goal.returns-in_err-matches
returns-in_err-matches c =
    let words = map (λ word. word.now) c.args.words.now in
    let met = request_met (subcommand_of qs_app words) in
    let f = c.in_err-matches.field-0.0 in
    let answer = fault_is_answer (fault_of qs_app words) met f (qs_alike words) c.in_err-matches.ensures.fault in
    let unasked : asks_language words ≡ false = search rules in
    let answered = subst (λ line. IsAnswer line (Err f)) (sym (other_line words unasked)) answer in
    record { line = subst (IsAnswer (line_in words)) (sym (handed_on _ f c.from_residual.ensures.1)) answered }
