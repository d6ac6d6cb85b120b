use Rattle.std.proofs.Common.{◌≡◌, Result, Ok, Err, IfOk, IsOkAnd, false, subst, sym}
use Rattle.clap.specs.Words.{AddsSubcommand, app_of}
use Rattle.clap.specs.declared.Command.TheViews.{out-Command as fields_of}
use Rattle.clap.specs.declared.builder.command.Command.{Command}
use Rattle.qs_line.specs.audit.Command.{with_word}
use Rattle.qs_line.proofs.command.with_word.Goals as goal

-- a command with one more word has its rules
adds : {E : Type 0} (old word : Command) (r : Result Command E) → (fields_of word).has_globals ≡ false
    → IfOk r (λ new. AddsSubcommand old word new) → IfOk r (λ new. app_of new ≡ with_word (app_of old) (app_of word))
adds old word (Ok new) local added = added.shape local
adds old word (Err e) local added = tt

pub returns-in-Ok : goal.returns-in-Ok
returns-in-Ok c =
    let local = subst (λ word. IfOk word (λ word. (fields_of word).has_globals ≡ false)) c.in-Ok.is c.requires.local in
    record {
      app = subst (λ word. IfOk c.subcommand.result (λ whole. IsOkAnd word (λ word. app_of whole ≡ with_word (app_of c.args.command) (app_of word))))
          (sym c.in-Ok.is) (adds c.args.command c.in-Ok.word c.subcommand.result local c.subcommand.ensures);
    }
