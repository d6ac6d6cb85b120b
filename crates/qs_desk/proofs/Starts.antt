-- While the queues of a new desk are made, each new queue stands at the place of its handler, and those made before it
-- stay as they were. The loop of `make_lines`, which makes one queue for each handler, stands on it. The proofs go by
-- induction on the queues made so far, or by cases on how many of the eight there are.
use Rattle.std.proofs.Common.{◌≡◌, ℕ, zero, suc, ◌<◌, Some, List, [], ◌∷◌, ◌++◌, map, length, set, refl, ap, arith}
use Rattle.atomic_table.specs.Seated.{TableId}
use Rattle.qs_program.specs.audit.Program.{ProgramShape}
use Rattle.qs_program.specs.audit.Limits.{most_handlers}
use Rattle.qs_desk.specs.TicketQueues.{QueueView, queue_at, queue_name, new_end, end_at}
use Rattle.qs_desk.specs.Places.{places}

pub ends_more : (p : ProgramShape) (names : List TableId) (n : TableId) → length names < most_handlers
    → set (map (end_at p names) places) (length names) (Some (new_end p n (length names))) ≡ map (end_at p (names ++ n ∷ [])) places
ends_more p [] n less = refl
ends_more p (a ∷ []) n less = refl
ends_more p (a ∷ b ∷ []) n less = refl
ends_more p (a ∷ b ∷ c ∷ []) n less = refl
ends_more p (a ∷ b ∷ c ∷ d ∷ []) n less = refl
ends_more p (a ∷ b ∷ c ∷ d ∷ e ∷ []) n less = refl
ends_more p (a ∷ b ∷ c ∷ d ∷ e ∷ f ∷ []) n less = refl
ends_more p (a ∷ b ∷ c ∷ d ∷ e ∷ f ∷ g ∷ []) n less = refl
ends_more p (a ∷ b ∷ c ∷ d ∷ e ∷ f ∷ g ∷ h ∷ rest) n less = absurd (omega (arith, less))

pub at_end : (P : ℕ → QueueView → Type 0) (senders : List QueueView) (l : QueueView) → ((h : ℕ) → h < length senders → P h (queue_at senders h)) → P (length senders) l
    → (h : ℕ) → h < length (senders ++ l ∷ []) → P h (queue_at (senders ++ l ∷ []) h)
at_end P [] l each last zero less = last
at_end P [] l each last (suc h) less = absurd (omega (arith, less))
at_end P (x ∷ senders) l each last zero less = each 0 (omega arith)
at_end P (x ∷ senders) l each last (suc h) less = at_end (λ k. P (suc k)) senders l (λ k within. each (suc k) (omega (arith, within))) last h (omega (arith, less))

pub names_len : (senders : List QueueView) → length (map queue_name senders) ≡ length senders
names_len [] = refl
names_len (l ∷ senders) = ap suc (names_len senders)
