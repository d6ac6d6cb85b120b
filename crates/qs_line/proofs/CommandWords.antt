-- The command is made part by part: what each part adds is known, so the whole is.
use Rattle.std.proofs.Common.{◌≡◌, ◌∙◌, ap, Result, Ok, Err, IfOk, IsOkAnd}
use Rattle.clap.specs.Words.{App, app_of}
use Rattle.clap.specs.declared.builder.command.Command.{Command}
use Rattle.qs_line.specs.audit.Command.{with_word}

-- what follows from what is known of a command that was made
pub follows : {E : Type 0} (r : Result Command E) (P Q : Command → Type 0) → ((x : Command) → P x → Q x) → IfOk r P → IfOk r Q
follows (Ok x) P Q f h = f x h
follows (Err e) P Q f h = tt

-- a command with one more word, of which it is known what it is
pub adds_word : {E : Type 0} (r : Result Command E) (whole old word : App) → IfOk r (λ w. app_of w ≡ word)
    → IsOkAnd r (λ w. whole ≡ with_word old (app_of w)) → whole ≡ with_word old word
adds_word (Ok w) whole old word is e = e ∙ ap (with_word old) is
adds_word (Err x) whole old word is e = absurd e
