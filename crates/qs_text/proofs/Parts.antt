-- What is put at the end of a text in parts is put there as one text. Every function that writes several parts stands
-- on it: it is taken once for each part but the first.
use Rattle.std.proofs.Common.{◌≡◌, ℕ, ◌+◌, List, [], ◌++◌, ap, ◌∙◌, append_assoc, add-one, OnOk, Result, Ok, Err}
use Rattle.qs_text.specs.audit.Texts.{texts_up_to}
use Rattle.qs_text.specs.Texts.{Puts}

-- a part, and one after it
pub then : {part next first before after : List ℕ} → Puts part first before → Puts next before after → Puts (part ++ next) first after
then {part} {next} {first} one other = record { is = other.is ∙ ap (λ l. l ++ next) one.is ∙ append_assoc first part next }

-- the same where the second is put by a call whose result is handed on
pub last : {E : Type 0} {part first before : List ℕ} (r : Result (Unit {0}) E) (next after : List ℕ) → Puts part first before → OnOk r (Puts next before after)
    → OnOk r (Puts (part ++ next) first after)
last (Ok x) next after one other = then one other
last (Err e) next after one other = tt

-- what was put where nothing was
pub all_that_is : {text first after : List ℕ} → first ≡ [] → Puts text first after → after ≡ text
all_that_is {text} none puts = puts.is ∙ ap (λ l. l ++ text) none

-- a text by another name
pub named : {text other first after : List ℕ} → text ≡ other → Puts text first after → Puts other first after
named {first = first} e puts = record { is = puts.is ∙ ap (λ l. first ++ l) e }

-- the text of one place more
pub one_text_more : (text : ℕ → List ℕ) (n : ℕ) {first before after : List ℕ} → Puts (texts_up_to n text) first before → Puts (text n) before after
    → Puts (texts_up_to (n + 1) text) first after
one_text_more text n before last = rw add-one (then before last)
