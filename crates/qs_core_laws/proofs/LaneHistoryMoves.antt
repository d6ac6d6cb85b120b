-- Where the block record and the lanes of one ticket are replaced in a history of lanes, what has to hold of each
-- ticket (`TicketOk`) holds of that one, and still of every other. The lemmas on a client's act and on a reservation
-- use this for the client's last ticket. A ticket is either this one or stays as it was; none begins with what this one
-- left, as it is its client's last.
use Rattle.std.proofs.Common.{◌≡◌, ◌≤◌, ℕ, zero, suc, false, List, refl, sym, ap, ◌∙◌, subst, ⊎_elim, rules, arith}
use Rattle.qs_played.proofs.Names.{HeldState, part, same, Ticket, ticket_cases, ProgramShape, Locals, BlockRecord, Begins, IsDone, ticket}
use Rattle.qs_meaning.specs.audit.Interaction as tree
use Rattle.qs_core_laws.proofs.Names.{ObjectStance, gone, ClientLane, Parcel, put_at, put_at_here, put_at_there, IsOpenRecord}
use Rattle.qs_core_laws.proofs.CoreInvariant.{LaneHistory, TicketOk}

-- a client's last ticket comes before none of its tickets
pub none_after : (begun : ℕ → ℕ) (t : Ticket) → begun t.client ≤ suc t.index → (d j : ℕ) → suc j ≤ begun d → (i : ℕ) → j ≡ suc i → t ≡ ticket d i → ⊥
none_after begun t last d j low i next is = search rules

module _ (program : ProgramShape) (y : LaneHistory) (t : Ticket) (pg : BlockRecord) (snt : ℕ → List Parcel) (got : ℕ → List HeldState) (stood : ℕ → ObjectStance) where
  abbrev pub story_at : LaneHistory
  story_at = record { block_record = put_at y.block_record t pg; sent = put_at y.sent t snt; got = put_at y.got t got; stands = put_at y.stands t stood }

  pub old_record : (u : Ticket) → same t u ≡ false → story_at.block_record u ≡ y.block_record u
  old_record u n = put_at_there y.block_record t pg u n

  -- what a block begins with stays, where the ticket isn't the one before it
  pub begins_kept : (d j : ℕ) (a b : Locals) → a ≡ b → ((i : ℕ) → j ≡ suc i → t ≡ ticket d i → ⊥) → Begins y.block_record d j a → Begins story_at.block_record d j b
  begins_kept d zero a b e apart h = sym e ∙ h
  begins_kept d (suc i) a b e apart h =
      ⊎_elim
      (λ (is : t ≡ ticket d i). absurd (apart i refl is))
      (λ (other : same t (ticket d i) ≡ false). ap (λ (p : BlockRecord). p.rest) (old_record (ticket d i) other) ∙ (h ∙ ap tree.Done e))
      (ticket_cases t (ticket d i))

  pub ok_here : IsOpenRecord program t pg → Begins story_at.block_record t.client t.index pg.entry → ((h : ℕ) → ClientLane t false (snt h) (got h) (part h pg.trace) (stood h)) → ((h : ℕ) → stood h ≡ gone → IsDone pg.rest)
      → TicketOk program story_at t
  ok_here block_record begins lanes over = record {
    block_record = subst (IsOpenRecord program t) (sym (put_at_here y.block_record t pg)) block_record;
    begins = subst (λ (p : BlockRecord). Begins story_at.block_record t.client t.index p.entry) (sym (put_at_here y.block_record t pg)) begins;
    lane = search (rules, put_at_here);
    gone = λ h e. subst (λ (p : BlockRecord). IsDone p.rest) (sym (put_at_here y.block_record t pg)) (over h (ap (λ (f : ℕ → ObjectStance). f h) (sym (put_at_here y.stands t stood)) ∙ e));
  }

  pub ok_there : (u : Ticket) → same t u ≡ false → ((i : ℕ) → u.index ≡ suc i → t ≡ ticket u.client i → ⊥) → TicketOk program y u → TicketOk program story_at u
  ok_there u n apart old = record {
    block_record = subst (IsOpenRecord program u) (sym (old_record u n)) old.block_record;
    begins = begins_kept u.client u.index (y.block_record u).entry (story_at.block_record u).entry (sym (ap (λ (p : BlockRecord). p.entry) (old_record u n))) apart old.begins;
    lane = search (rules, old_record, put_at_there);
    gone = λ h e. subst (λ (p : BlockRecord). IsDone p.rest) (sym (old_record u n)) (old.gone h (ap (λ (f : ℕ → ObjectStance). f h) (sym (put_at_there y.stands t stood u n)) ∙ e));
  }
