-- What is put at the end of a text in parts is put there as one text. The functions that write a call, a node or a
-- frame stand on it: it is taken once for each part, from the first part on.
use Rattle.std.proofs.Common.{◌≡◌, ℕ, List, ◌++◌, ap, ◌∙◌, append_assoc}

pub then : (first part rest before after : List ℕ) → before ≡ first ++ part → after ≡ before ++ rest → after ≡ first ++ (part ++ rest)
then first part rest before after e h = h ∙ ap (λ l. l ++ rest) e ∙ append_assoc first part rest
