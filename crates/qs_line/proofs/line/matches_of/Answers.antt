use Rattle.std.proofs.Common.{◌∙◌, ap, sym, subst, map}
use Rattle.clap.specs.Faults.{is_simple_and_free, fault_of}
use Rattle.clap.specs.Words.{is_simple, subcommand_of}
use Rattle.qs_line.specs.Line.{IsFaultAmong}
use Rattle.qs_line.proofs.Answering.{fault_among}
use Rattle.qs_line.proofs.Entries.{qs_is_simple, qs_is_simple_and_free}
use Rattle.qs_line.proofs.line.matches_of.Goals as goal

pub returns-in-Ok : goal.returns-in-Ok
returns-in-Ok c =
    let words = map (λ word. word.now) c.args.words.now in
    let app = c.in_ok-command.ensures.app in
    record {
      taken = ap (λ a. fault_of a words) (sym app) ∙ c.in-Ok.ensures.kinds (ap is_simple_and_free app ∙ qs_is_simple_and_free);
      entries = (c.in-Ok.ensures.matches (ap is_simple app ∙ qs_is_simple)).1 ∙ ap (λ a. subcommand_of a words) app;
      fault = tt;
    }

pub returns-in-Err-clause-fault : goal.returns-in-Err-clause-fault
returns-in-Err-clause-fault c =
    let app = c.in_ok-command.ensures.app in
    let kinds = c.in-Err.ensures.kinds (ap is_simple_and_free app ∙ qs_is_simple_and_free) in
    subst (λ a. IsFaultAmong (fault_of a (map (λ word. word.now) c.args.words.now)) c.line_fault.result) app
    (fault_among _ c.in-Err.error _ kinds c.line_fault.ensures.fault)
